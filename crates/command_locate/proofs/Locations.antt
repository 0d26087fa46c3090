-- The table of LOCATE's parameters, over what the code took them apart into. No contract cites this file.
use Prim.Native.Nat.{ℕ, ◌<◌}
use mathlib.Core.Path.{◌≡◌}
use mathlib.Core.List.{List}
use Rattle.model.specs.declared.device.Device.{Device}
use Rattle.model.specs.declared.extent.Located.{Located}
use Rattle.model.specs.State.{State}
use Rattle.model.specs.Parameters.{located_in, modifiers_in, replication_in, processed}
use Rattle.model.specs.Causes.{location_causes, location_rules}
use Rattle.numbers.proofs.Choice.{pick_ind}
use native.Mathlib.Omega.{arith}

pub location_lines : (dev : Device) (s : State) (p : List ℕ) (l : Located) (r : ℕ) → l ≡ located_in p → r ≡ replication_in p → location_causes dev s p ≡ location_rules dev s (modifiers_in p) l r
unfolding location_causes
location_lines dev s p l r e f = rw (e, f)

pub processed_small : (l : Located) (r n : ℕ) → n ≡ processed l r → r < 256 → l.blocks < 65536 → n < 65536
unfolding processed
processed_small l r n e h k = rw e (pick_ind (λ (m : ℕ). m < 65536) _ _ _ (λ _. omega arith) (λ _. k))
