-- An alternate given back from C, from what the library looked at and what it did.
--     device_long      none of 2, 6 and 8 holds: there are 290 bytes of record
--     device_mounted   and the device may be worked on, with the map as it is lent
--     give_back_first  the first of 2, 6 and 8 is the call's cause; give_back_then   and where there is none, that of 50 and 51
--     device_passed    none of the five holds: none of 2, 6 and 8 does; returned_on   and the block is the device's, and mapped
--     refused_return   one of the five holds: refused, and nothing changed
--     done_return      none does, and the store and the map that were made are those of the definition
--     device_rules, return_rules, give_back_rules, returned_rules
--                      what the check finds the four functions by
-- No contract cites this file.
use Prim.Native.Nat.{ℕ, ◌<◌}
use mathlib.Core.Path.{◌≡◌, refl, sym}
use mathlib.Core.List.{List}
use lib.ListN.{length}
use native.Mathlib.Omega.{arith}
use borrow.Author.Tests.{eqb-true, not-false}
use Rattle.model.specs.declared.cause.Cause.{Cause}
use Rattle.model.specs.declared.device.Device.{Device}
use Rattle.model.specs.Rules.{first_of}
use Rattle.model.specs.Alternates.{alternate_of, unmapped}
use Rattle.model.specs.Lent.{record_size, block_count, map_of}
use Rattle.model.specs.Causes.{map_causes, device_causes, return_causes, give_back_causes}
use Rattle.model.specs.Host.{result_of}
use Rattle.model.specs.GiveBack.{brought_home, give_back_of}
use Rattle.model.specs.Safe.{Usable, Mounted}
use Rattle.model.specs.Told.{cause_number}
use Rattle.model.proofs.Verdicts.{failed_upto, failed_all, none_given}
use Rattle.model.proofs.Endings.{right_store}
use Rattle.model.proofs.Blocks.{mounted_alternates, mounted_primaries}
use Rattle.model.proofs.GiveBack.{returnable, give_back_refused, give_back_done}
use Rattle.alternates.proofs.Found.{none_found}
use Rattle.chain.proofs.Passed.{never_none, table, refused_first, passed_first}
use Rattle.loughrella.proofs.Hosted.{usable, lent_map, with_map, map_lent, map_whole, map_stored}

module _ (dev : Device) (store unit : List ℕ) where
  abbrev device_verdict : ℕ
  device_verdict = first_of (device_causes dev store unit)

  -- none of 2, 6 and 8 holds
  module _ (passed : device_verdict ≡ 0) where
    pub device_long : length unit ≡ record_size
    unfolding device_causes map_causes
    device_long = eqb-true _ _ (not-false _ (failed_all 0 (device_causes dev store unit) refl passed).1.0)

    pub device_mounted : Usable dev → Mounted dev store (lent_map unit)
    unfolding device_causes map_causes block_count
    device_mounted usable =
        let k = right_store dev store (failed_all 0 (device_causes dev store unit) refl passed).0 in
        record { device = usable; some_block = omega (arith, k.some_primary); few_blocks = k.held; few_alternates = k.few_alternates; whole_map = map_whole unit device_long }

  module _ (block : ℕ) where
    abbrev verdict : ℕ
    verdict = first_of (give_back_causes dev store unit block)

    pub give_back_first : (cause : Cause) → cause_number cause ≡ device_verdict → verdict ≡ cause_number cause
    unfolding give_back_causes device_causes map_causes
    give_back_first cause e = refused_first (device_causes dev store unit) (return_causes dev store (map_of unit) block) refl cause e

    pub give_back_then : 0 ≡ device_verdict → verdict ≡ first_of (return_causes dev store (lent_map unit) block)
    unfolding give_back_causes device_causes map_causes
    give_back_then passed =
        rw (map_lent unit (device_long (sym passed))) (passed_first (device_causes dev store unit) (return_causes dev store (map_of unit) block) refl passed)

    pub refused_return : (cause : Cause) → cause_number cause ≡ verdict
        → give_back_of dev store unit block ≡ record { result = result_of (cause_number cause) 0; store = store; unit = unit }
    refused_return cause e = give_back_refused dev store unit block _ (sym e) (never_none cause)

    -- none of the five holds
    module _ (passed : verdict ≡ 0) where
      pub device_passed : device_verdict ≡ 0
      unfolding give_back_causes device_causes map_causes
      device_passed = none_given _ (failed_upto 0 (device_causes dev store unit) _ refl passed).0

      pub returned_on : (block < block_count dev store) × (alternate_of (lent_map unit) dev.alternates block < dev.alternates)
      returned_on =
          let k = returnable dev store unit block passed in
          (k.on, rw (map_lent unit k.long) k.mapped)

      pub done_return : give_back_of dev store unit block
          ≡ record { result = 0; store = brought_home dev (lent_map unit) store block; unit = with_map unit (unmapped (lent_map unit) dev.alternates block) }
      done_return =
          let whole = device_long device_passed in
          rw (map_stored unit whole, map_lent unit whole) (give_back_done dev store unit block passed)

-- what the functions of give_back.rt and `loughrella_give_back` stand on

pub ruleset device_rules = (map_lent, table)

pub ruleset return_rules = (mounted_alternates, mounted_primaries, none_found, table)

pub ruleset give_back_rules = (give_back_first, give_back_then, device_long, device_mounted)

pub ruleset returned_rules = (refused_return, device_passed, device_long, device_mounted, returned_on, done_return, usable)
