-- Big-endian numbers (01, What is lent: "All numbers here are big-endian").
--     be             the number in n bytes of a list, from a place on
--     be_bytes       the bytes of a number, its low n bytes
--     be2 be3 be4    `be` at 2, 3 and 4 bytes, written out
--     bytes2 bytes3 bytes4   `be_bytes` at 2, 3 and 4 bytes, written out
-- Assumes nothing.
use Rattle.std.specs.Prelude.{ℕ, zero, suc, ◌+◌, ◌-◌, ◌*◌, ◌/◌, ◌%◌, List, [], ◌∷◌, get_or}
use Rattle.std.specs.Int.{byte_worth, bytes_high_first, sum_through}

-- the place i places behind another; the first one computes to that place itself
abbrev pub behind : ℕ → ℕ → ℕ
behind at zero = at
behind at (suc i) = at + suc i

-- each byte is worth 256 times what the byte behind it is worth, and the last is worth itself
abbrev pub be : ℕ → List ℕ → ℕ → ℕ
be zero l at = 0
be (suc n) l at = sum_through (λ i. byte_worth (n - i) (get_or l (behind at i) 0)) n

abbrev pub be_bytes : ℕ → ℕ → List ℕ
be_bytes = bytes_high_first

abbrev pub be2 : List ℕ → ℕ → ℕ
be2 l at = get_or l at 0 * 256 + get_or l (at + 1) 0

abbrev pub be3 : List ℕ → ℕ → ℕ
be3 l at = get_or l at 0 * 65536 + get_or l (at + 1) 0 * 256 + get_or l (at + 2) 0

abbrev pub be4 : List ℕ → ℕ → ℕ
be4 l at = get_or l at 0 * 16777216 + get_or l (at + 1) 0 * 65536 + get_or l (at + 2) 0 * 256 + get_or l (at + 3) 0

abbrev pub bytes2 : ℕ → List ℕ
bytes2 n = n / 256 % 256 ∷ n % 256 ∷ []

abbrev pub bytes3 : ℕ → List ℕ
bytes3 n = n / 65536 % 256 ∷ n / 256 % 256 ∷ n % 256 ∷ []

abbrev pub bytes4 : ℕ → List ℕ
bytes4 n = n / 16777216 % 256 ∷ n / 65536 % 256 ∷ n / 256 % 256 ∷ n % 256 ∷ []
