-- The unit record and its 290 bytes: there and back, both ways.
--     unit_length, unit_bytes_lem  all of a record but its map has 34 bytes
--     record_of_lem, map_of_lem    290 bytes hold a unit record, and its map
--     record_front                 all of the record but its map is the first 34 of them
--     record_back, map_back, bytes_back
--                                  nothing is lost on either way
--     map_replaced                 nor where the map is another
-- No contract cites this file.
use Prim.Native.Nat.{ℕ, ◌+◌, ◌≤◌}
use mathlib.Core.Path.{◌≡◌, refl, sym, ap, ◌∙◌}
use mathlib.Core.List.{List, [], ◌∷◌, ◌++◌, append_assoc, append-nil}
use lib.ListN.{length, get_or, take, length-append}
use lib.Seq.{get_or_at, get_or-append-add, take_all, length-take-le}
use native.Mathlib.Omega.{arith}
use Rattle.numbers.specs.Bytes.{AreBytes}
use Rattle.numbers.proofs.Bytes.{bytes_nil, bytes_cons, bytes_append, byte_at}
use Rattle.slices.specs.Parts.{part}
use Rattle.slices.proofs.Laws.{length_part, part_between, part_cons, take_part, bytes_part}
use Rattle.model.specs.declared.record.Record.{Record}
use Rattle.model.specs.Alternates.{map_size}
use Rattle.model.specs.Lent.{map_place, record_size, unit_bytes, record_bytes, record_of, map_of}
use Rattle.model.proofs.Fields.{Sized, IsRecord}

pub unit_length : (u : Record) → IsRecord u → length (unit_bytes u) ≡ map_place
unfolding unit_bytes
unit_length u r = simp (length-append, r.sense.long, r.read.long, r.written.long, r.movements.long)

pub unit_bytes_lem : (u : Record) → IsRecord u → AreBytes (unit_bytes u)
unfolding unit_bytes
unit_bytes_lem u r =
    bytes_append _ _ (bytes_append _ _ (bytes_append _ _ (bytes_append _ _ r.sense.bytes r.read.bytes) r.written.bytes) r.movements.bytes)
    (bytes_cons _ _ r.ready_byte (bytes_cons _ _ r.read_only_byte bytes_nil))

pub record_of_lem : (l : List ℕ) → length l ≡ record_size → AreBytes l → IsRecord (record_of l)
unfolding record_of
record_of_lem l e b =
    let field : (at n : ℕ) → at + n ≤ record_size → Sized n (part l at n) = λ at n h. record { long = length_part l at n (omega (arith, e, h)); bytes = bytes_part l at n b } in
    record {
      sense = field 0 24 (omega arith);
      read = field 24 3 (omega arith);
      written = field 27 3 (omega arith);
      movements = field 30 2 (omega arith);
      ready_byte = byte_at l 32 b;
      read_only_byte = byte_at l 33 b;
    }

pub map_of_lem : (l : List ℕ) → length l ≡ record_size → AreBytes l → Sized map_size (map_of l)
unfolding map_of
map_of_lem l e b = record { long = length_part l map_place map_size (omega (arith, e)); bytes = bytes_part l map_place map_size b }

pub record_front : (l : List ℕ) → map_place ≤ length l → unit_bytes (record_of l) ≡ take map_place l
unfolding unit_bytes record_of part
record_front l h =
    let end : part l 32 2 ≡ get_or l 32 0 ∷ get_or l 33 0 ∷ []
    = part_cons l 32 1 (omega (arith, h)) ∙ ap (λ (k : List ℕ). get_or l 32 0 ∷ k) (part_cons l 33 0 (omega (arith, h))) in
    rw (take_part l 24 3, take_part l 27 3, take_part l 30 2, ← end) (take_part l 32 2)

pub bytes_back : (l : List ℕ) → length l ≡ record_size → record_bytes (record_of l) (map_of l) ≡ l
unfolding map_of
bytes_back l e = rw (record_front l (omega (arith, e)), take_part l map_place map_size) (take_all record_size l (omega (arith, e)))

map_behind : (front map : List ℕ) → length front ≡ map_place → length map ≡ map_size → map_of (front ++ map) ≡ map
unfolding map_of
map_behind front map f e = rw (append-nil map) at (part_between front map [] map_place map_size f e)

pub map_back : (u : Record) (map : List ℕ) → IsRecord u → length map ≡ map_size → map_of (record_bytes u map) ≡ map
map_back u map r e = map_behind (unit_bytes u) map (unit_length u r) e

-- 290 bytes with another map

pub record_front_length : (l : List ℕ) → length l ≡ record_size → length (unit_bytes (record_of l)) ≡ map_place
record_front_length l e = rw (record_front l (omega (arith, e))) (length-take-le map_place l (omega (arith, e)))

pub map_replaced : (l map : List ℕ) → length l ≡ record_size → length map ≡ map_size → map_of (record_bytes (record_of l) map) ≡ map
map_replaced l map e f = map_behind (unit_bytes (record_of l)) map (record_front_length l e) f

pub record_back : (u : Record) (map : List ℕ) → IsRecord u → record_of (record_bytes u map) ≡ u
unfolding record_of unit_bytes
record_back u map r =
    let a : List ℕ = u.sense in
    let b : List ℕ = u.blocks_read in
    let c : List ℕ = u.blocks_written in
    let d : List ℕ = u.movements in
    let e : List ℕ = (u.ready ∷ u.read_only ∷ []) ++ map in
    let all : List ℕ = a ++ b ++ c ++ d ++ (u.ready ∷ u.read_only ∷ []) ++ map in
    let two : length (a ++ b) ≡ 27 = simp (length-append, r.sense.long, r.read.long) in
    let three : length (a ++ b ++ c) ≡ 30 = simp (length-append, r.sense.long, r.read.long, r.written.long) in
    let four : length (a ++ b ++ c ++ d) ≡ 32 = simp (length-append, r.sense.long, r.read.long, r.written.long, r.movements.long) in
    let sense : part all 0 24 ≡ a = simp append_assoc (part_between [] a (b ++ (c ++ (d ++ e))) 0 24 refl r.sense.long) in
    let read : part all 24 3 ≡ b = simp append_assoc (part_between a b (c ++ (d ++ e)) 24 3 r.sense.long r.read.long) in
    let written : part all 27 3 ≡ c = simp append_assoc (simp append_assoc at (part_between (a ++ b) c (d ++ e) 27 3 two r.written.long)) in
    let movements : part all 30 2 ≡ d = simp append_assoc (simp append_assoc at (part_between (a ++ b ++ c) d e 30 2 three r.movements.long)) in
    let last : all ≡ a ++ b ++ c ++ d ++ e = append_assoc (a ++ b ++ c ++ d) (u.ready ∷ u.read_only ∷ []) map in
    let ready : get_or all 32 0 ≡ u.ready = rw last (get_or_at (a ++ b ++ c ++ d) u.ready (u.read_only ∷ map) 0 32 four) in
    let read-only : get_or all 33 0 ≡ u.read_only = rw last (ap (λ (n : ℕ). get_or (a ++ b ++ c ++ d ++ e) (n + 1) 0) (sym four) ∙ get_or-append-add (a ++ b ++ c ++ d) e 1 0) in
    λ i. record { sense = sense i; blocks_read = read i; blocks_written = written i; movements = movements i; ready = ready i; read_only = read-only i }
