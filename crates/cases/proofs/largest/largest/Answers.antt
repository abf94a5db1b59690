use Rattle.std.proofs.Common.{◌≡◌, ℕ, ◌++◌, List, ap, ◌∙◌}
use Rattle.cases.proofs.largest.largest.Goals as goal

joined : (x y z a b c : List ℕ) → x ≡ a → y ≡ x ++ b → z ≡ y ++ c → z ≡ (a ++ b) ++ c
joined x y z a b c p q r = r ∙ ap (λ l. l ++ c) (q ∙ ap (λ l. l ++ b) p)

pub returns : goal.returns
returns c = joined _ _ _ _ _ _ (c.in_ok-sheet.ensures.items_if_clones_equal (λ x y e. e)) c.in_ok-extend_from_slice.ensures.items c.in_ok-extend_from_slice-2.ensures.items
