-- The bytes of an answer, from the two numbers that the code makes. No contract cites this file.
--     answer_bytes_lem   what is put is the definition's answer
use Prim.Native.Nat.{ℕ, ◌+◌, ◌*◌, ◌/◌, ◌%◌, ◌<◌}
use mathlib.Core.Path.{◌≡◌, refl, ap, ◌∙◌}
use mathlib.Core.Bool.{Bool, true, false}
use mathlib.Core.List.{List, [], ◌∷◌, ◌++◌}
use native.Mathlib.Omega.{arith}
use Rattle.numbers.specs.Big.{bytes2, bytes4}
use Rattle.model.specs.Pieces.{Command}
use Rattle.model.specs.declared.kind.Kind.{Kind}
use Rattle.model.specs.declared.kind.Kind.TheVariants.{Accepted, ProgramCheck, UnitCheck}
use Rattle.model.specs.State.{Done}
use Rattle.model.specs.Causes.{kind_of}
use Rattle.model.specs.Answer.{unit_status, channel_by, wrong_length, channel_status, residual, answer_of}
use Rattle.model.proofs.Leaving.{status_byte, channel_byte}
use Rattle.endings.specs.Ending.{answer_words, with_residual, answer_bytes, marked, wrong_by}

front_bytes : (u c r : ℕ) → u < 256 → c < 256 → r < 65536 → bytes4 ((u * 256 + c) * 65536 + r) ≡ (u ∷ c ∷ []) ++ bytes2 r
front_bytes u c r hu hc hr =
    let n : ℕ = (u * 256 + c) * 65536 + r in
    let e₀ : n / 16777216 % 256 ≡ u = omega (arith, hu, hc, hr) in
    let e₁ : n / 65536 % 256 ≡ c = omega (arith, hu, hc, hr) in
    let e₂ : n / 256 % 256 ≡ r / 256 % 256 = omega (arith, hu, hc, hr) in
    let e₃ : n % 256 ≡ r % 256 = omega (arith, hu, hc, hr) in
    rw (e₀, e₁, e₂, e₃)

back_bytes : (w b : ℕ) → w < 256 → b < 65536 → bytes4 (w * 16777216 + b) ≡ (w ∷ 0 ∷ []) ++ bytes2 b
back_bytes w b hw hb =
    let n : ℕ = w * 16777216 + b in
    let e₀ : n / 16777216 % 256 ≡ w = omega (arith, hw, hb) in
    let e₁ : n / 65536 % 256 ≡ 0 = omega (arith, hw, hb) in
    let e₂ : n / 256 % 256 ≡ b / 256 % 256 = omega (arith, hw, hb) in
    let e₃ : n % 256 ≡ b % 256 = omega (arith, hw, hb) in
    rw (e₀, e₁, e₂, e₃)

-- the channel's status is 00 before a wrong length is marked
by_kind : (k : Kind) (wrong : Bool) (rest : List ℕ) → marked (wrong_by k wrong) (unit_status k ∷ channel_by k false ∷ rest) ≡ unit_status k ∷ channel_by k wrong ∷ rest
by_kind Accepted true rest = refl
by_kind Accepted false rest = refl
by_kind ProgramCheck wrong rest = refl
by_kind UnitCheck wrong rest = refl

words_bytes : (k : Kind) (left w b : ℕ) → left < 65536 → w < 256 → b < 65536
    → answer_bytes (with_residual (answer_words k w b) left) ≡ (unit_status k ∷ channel_by k false ∷ []) ++ bytes2 left ++ ((w ∷ 0 ∷ []) ++ bytes2 b)
words_bytes k left w b hl hw hb =
    ap (λ (x : List ℕ). x ++ bytes4 (w * 16777216 + b)) (front_bytes (unit_status k) (channel_by k false) left (status_byte k) (channel_byte k false) hl)
    ∙ ap (λ (x : List ℕ). (unit_status k ∷ channel_by k false ∷ []) ++ bytes2 left ++ x) (back_bytes w b hw hb)

pub answer_bytes_lem : (c : Command) (d : Done) → residual c d < 65536 → d.cause < 256 → d.blocks < 65536
    → marked (wrong_by (kind_of d.cause) (wrong_length c d.can)) (answer_bytes (with_residual (answer_words (kind_of d.cause) d.cause d.blocks) (residual c d))) ≡ answer_of c d
unfolding answer_of channel_status
answer_bytes_lem c d hc hw hb =
    let k : Kind = kind_of d.cause in
    ap (marked (wrong_by k (wrong_length c d.can))) (words_bytes k (residual c d) d.cause d.blocks hc hw hb)
    ∙ by_kind k (wrong_length c d.can) (bytes2 (residual c d) ++ ((d.cause ∷ 0 ∷ []) ++ bytes2 d.blocks))
