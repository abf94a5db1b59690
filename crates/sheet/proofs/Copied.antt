-- A draft copied to the front of a buffer.
use Rattle.std.proofs.Common.{◌≡◌, ℕ, ◌+◌, ◌≤◌, List, ◌++◌, length, take, drop, Some, None, ap, ◌∙◌, arith}
use Rattle.std.proofs.lemmas.List.{take_at}
use Rattle.text.specs.Writing.{put, Writes}

pub copied : (out draft draft' text self : List ℕ) (n : ℕ) → Writes draft 0 text (Some n) draft' → self ≡ take n draft' → self ++ drop n out ≡ put out 0 text
copied out draft draft' text self n w is =
    let long : length text ≡ n = omega arith in
    let same : n ≡ 0 + length text = omega arith in
    let front : self ≡ text = is ∙ ap (take n) w.2 ∙ take_at text (drop (0 + length text) draft) n long in
    λ i. front i ++ drop (same i) out

-- what has no room is longer than the draft
pub never : (draft draft' text : List ℕ) → Writes draft 0 text None draft' → length text ≤ length draft → ⊥
never draft draft' text w short = omega arith
