-- What is counted of the counts is counted of the record that has them. No contract cites this file.
--     powers_fit   how many numbers a count of at most 3 bytes holds
use Prim.Native.Nat.{ℕ, ◌^◌, ◌≤◌, ◌<◌}
use native.Mathlib.Nat.{pow-le-pow_right}
use native.Mathlib.Omega.{arith}
use mathlib.Core.Path.{◌≡◌, refl}
use Rattle.model.specs.declared.record.Record.{Record}
use Rattle.model.specs.declared.record.Counts.{Counts}
use Rattle.model.specs.Log.{with_counts, read_counted, written_counted, movement_counted, log_reset}
use Rattle.buffered_log.specs.Counts.{counted, with_read, with_written, with_movement, no_counts}

module _ (u : Record) (k : Counts) where
  pub read_counted_lem : (n : ℕ) → counted u (with_read n k) ≡ read_counted n (counted u k)
  unfolding counted read_counted with_counts
  read_counted_lem n = refl

  pub written_counted_lem : (n : ℕ) → counted u (with_written n k) ≡ written_counted n (counted u k)
  unfolding counted written_counted with_counts
  written_counted_lem n = refl

  pub movement_counted_lem : counted u (with_movement k) ≡ movement_counted (counted u k)
  unfolding counted movement_counted with_counts
  movement_counted_lem = refl

pub none_counted : (u : Record) → counted u no_counts ≡ log_reset u
unfolding counted log_reset with_counts
none_counted u = refl

pub powers_fit : (n : ℕ) → n < 4 → (1 ≤ 256 ^ n) × (256 ^ n ≤ 16777216)
powers_fit n h = (pow-le-pow_right {n = 256} (omega arith) {i = 0} {j = n} (omega arith), pow-le-pow_right {n = 256} (omega arith) {i = n} {j = 3} (omega arith))
