-- Laws of big-endian numbers: the bytes of a number are bytes, and hold it; a number in bytes fits its width.
--     be2_is .. bytes4_is                     `be` and `be_bytes` at 2, 3 and 4 bytes are the ones written out
--     more_bytes, be_fits                     one byte more; n bytes hold a number below 256 ^ n
--     part_long, turn                         the part that the loop of `be` goes over, and a turn of it
--     be_bytes_are, bytes2_are .. bytes4_are  the bytes are bytes
--     bytes2_hold, bytes4_hold                written and read again
-- No contract cites this file.
use Prim.Native.Nat.{ℕ, zero, suc, ◌+◌, ◌-◌, ◌*◌, ◌/◌, ◌%◌, ◌^◌, ◌≤◌, ◌<◌}
use mathlib.Core.Path.{◌≡◌, refl, sym, ◌∙◌}
use mathlib.Core.List.{List}
use native.Mathlib.Nat.{add-zero, mul_assoc, pow-suc, pow-le-pow_right, suc-sub-suc, div-div-eq-div-mul}
use native.Mathlib.Omega.{arith}
use lib.ListN.{length, get_or, take, drop, length-drop}
use lib.Seq.{length-take-le, get_or-take, get_or-drop}
use Rattle.std.specs.Int.{byte_worth, sum_through, byte_at as byte_of}
use Rattle.numbers.specs.Bytes.{AreBytes}
use Rattle.numbers.specs.Big.{behind, be, be_bytes, be2, be3, be4, bytes2, bytes3, bytes4}
use Rattle.numbers.proofs.Bytes.{bytes_nil, bytes_cons, byte_at}

-- 2, 3 and 4 bytes, where antt computes both

pub be2_is : (l : List ℕ) (at : ℕ) → be 2 l at ≡ be2 l at
be2_is l at = refl

pub be3_is : (l : List ℕ) (at : ℕ) → be 3 l at ≡ be3 l at
be3_is l at = refl

pub be4_is : (l : List ℕ) (at : ℕ) → be 4 l at ≡ be4 l at
be4_is l at = refl

pub bytes2_is : (n : ℕ) → be_bytes 2 n ≡ bytes2 n
bytes2_is n = refl

pub bytes3_is : (n : ℕ) → be_bytes 3 n ≡ bytes3 n
bytes3_is n = refl

pub bytes4_is : (n : ℕ) → be_bytes 4 n ≡ bytes4 n
bytes4_is n = refl

-- any number of bytes, read

worth_more : (k b : ℕ) → byte_worth (suc k) b ≡ byte_worth k b * 256
worth_more zero b = refl
worth_more (suc k) b = rw (pow-suc 256 (suc k)) (sym (mul_assoc b (256 ^ suc k) 256))

scaled : (f g : ℕ → ℕ) (m : ℕ) → ((i : ℕ) → i ≤ m → g i ≡ f i * 256) → sum_through g m ≡ sum_through f m * 256
scaled f g zero h = h 0 (omega arith)
scaled f g (suc m) h = omega (arith, scaled f g m (λ i k. h i (omega arith)), h (suc m) (omega arith))

pub more_bytes : (n : ℕ) (l : List ℕ) (at : ℕ) → be (suc n) l at ≡ be n l at * 256 + get_or l (behind at n) 0
more_bytes zero l at = omega arith
more_bytes (suc n) l at =
    let byte : ℕ → ℕ = λ i. get_or l (behind at i) 0 in
    let step : (i : ℕ) → i ≤ n → byte_worth (suc n - i) (byte i) ≡ byte_worth (n - i) (byte i) * 256 =
    λ i h. let e : suc n - i ≡ suc (n - i) = omega arith in rw e (worth_more (n - i) (byte i)) in
    let none : n - n ≡ 0 = omega arith in
    let last : byte_worth (suc n - suc n) (byte (suc n)) ≡ byte (suc n) = rw (suc-sub-suc, none) refl in
    let front = scaled (λ i. byte_worth (n - i) (byte i)) (λ i. byte_worth (suc n - i) (byte i)) n step in
    omega (arith, front, last)

pub be_fits : (n : ℕ) (l : List ℕ) (at : ℕ) → ((i : ℕ) → get_or l i 0 < 256) → be n l at < 256 ^ n
be_fits zero l at p = omega arith
be_fits (suc n) l at p =
    let byte : get_or l (behind at n) 0 < 256 = p (behind at n) in
    omega (arith, more_bytes n l at, byte, be_fits n l at p, pow-suc 256 n)

-- the part that the loop goes over has its n bytes
pub part_long : (l : List ℕ) (at n : ℕ) → at + n ≤ length l → length (take (at + n - at) (drop at l)) ≡ n
part_long l at n h = length-take-le (at + n - at) (drop at l) (rw length-drop (omega arith)) ∙ omega arith

behind_is : (at n : ℕ) → behind at n ≡ at + n
behind_is at zero = sym (add-zero at)
behind_is at (suc n) = refl

-- a turn at byte k of them, of which there are at most 8: it is the byte k places behind `at`, and there is room for it behind the first k
pub record Turn (l : List ℕ) (at n k : ℕ) : Type 0 where
  pub same : get_or (take (at + n - at) (drop at l)) k 0 ≡ get_or l (behind at k) 0
  pub byte : get_or l (behind at k) 0 < 256
  pub room : be k l at < 256 ^ 7

pub turn : (l : List ℕ) (at n k : ℕ) → ((i : ℕ) → get_or l i 0 < 256) → n ≤ 8 → at + n ≤ length l → k < length (take (at + n - at) (drop at l))
    → Turn l at n k
turn l at n k p narrow there i =
    let here : k < n = omega (arith, part_long l at n there) in
    let top = pow-le-pow_right {n = 256} (omega arith) {i = k} {j = 7} (omega arith) in
    record {
      same = rw (behind_is at k) (get_or-take (at + n - at) (drop at l) k 0 (omega arith) ∙ get_or-drop at l k 0);
      byte = p (behind at k);
      room = omega (arith, top, be_fits k l at p);
    }

-- any number of bytes, written

byte_fits : (i n : ℕ) → byte_of i n < 256
byte_fits zero n = omega arith
byte_fits (suc i) n = omega arith

pub be_bytes_are : (k n : ℕ) → AreBytes (be_bytes k n)
be_bytes_are zero n = bytes_nil
be_bytes_are (suc k) n = bytes_cons _ _ (byte_fits k n) (be_bytes_are k n)

pub bytes2_are : (n : ℕ) → AreBytes (bytes2 n)
bytes2_are n = be_bytes_are 2 n

pub bytes3_are : (n : ℕ) → AreBytes (bytes3 n)
bytes3_are n = be_bytes_are 3 n

pub bytes4_are : (n : ℕ) → AreBytes (bytes4 n)
bytes4_are n = be_bytes_are 4 n

-- written and read again
pub bytes2_hold : (n : ℕ) → n < 65536 → be2 (bytes2 n) 0 ≡ n
bytes2_hold n h = omega arith

-- the three numbers that are left when the last bytes are taken off, one by one
four_hold : (n a b c : ℕ) → n / 256 ≡ a → a / 256 ≡ b → b / 256 ≡ c → n < 4294967296 → c % 256 * 16777216 + b % 256 * 65536 + a % 256 * 256 + n % 256 ≡ n
four_hold n a b c e f g h =
    let n₁ : a * 256 + n % 256 ≡ n = omega (arith, e) in
    let a₁ : b * 256 + a % 256 ≡ a = omega (arith, f) in
    let b₁ : c * 256 + b % 256 ≡ b = omega (arith, g) in
    let c₁ : c % 256 ≡ c = omega (arith, n₁, a₁, b₁, h) in
    omega (arith, n₁, a₁, b₁, c₁)

pub bytes4_hold : (n : ℕ) → n < 4294967296 → be4 (bytes4 n) 0 ≡ n
bytes4_hold n h =
    let f : n / 256 / 256 ≡ n / 65536 = div-div-eq-div-mul n 256 256 in
    let g : n / 65536 / 256 ≡ n / 16777216 = div-div-eq-div-mul n 65536 256 in
    four_hold n (n / 256) (n / 65536) (n / 16777216) refl f g h

pub be2_fits : (l : List ℕ) (at : ℕ) → AreBytes l → be2 l at < 65536
be2_fits l at p = be_fits 2 l at (λ i. byte_at l i p)
