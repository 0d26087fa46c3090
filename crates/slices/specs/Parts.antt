-- Parts of byte lists. Whatever moves bytes is said in these words.
--     zeros        n bytes of zero
--     part         the n bytes from a place on
--     put          a list with other bytes in the place of its own, from a place on
--     pad          exactly n bytes: those given, then zeros
--     most_copied  the bytes that one copy moves at most
-- They stay shut; the laws about them are in `proofs/Laws.antt`. Assumes nothing.
use Rattle.std.specs.Prelude.{ℕ, ◌+◌, ◌-◌, List, ◌++◌, length, take, drop, replicate}

unfoldable pub zeros : ℕ → List ℕ
zeros n = replicate n 0

unfoldable pub part : List ℕ → ℕ → ℕ → List ℕ
part l at n = take n (drop at l)

unfoldable pub put : List ℕ → ℕ → List ℕ → List ℕ
put l at bytes = take at l ++ bytes ++ drop (at + length bytes) l

unfoldable pub pad : ℕ → List ℕ → List ℕ
pad n bytes = take n bytes ++ zeros (n - length bytes)

-- a count has 16 bits
abbrev pub most_copied : ℕ
most_copied = 65536
