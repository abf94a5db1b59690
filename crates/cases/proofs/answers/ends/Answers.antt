use Rattle.std.proofs.Common.{◌≡◌, ◌==◌, ℕ, ◌-◌, Bool, false, List, length, take, drop, Some, None, Option, Bor, MatchOption, IfSome, sym, subst, rules}
use Rattle.std.specs.Bool.{OnTrue}
use Rattle.std.specs.Cmp.Lexicographic.{pointwise}
use Rattle.std.proofs.lemmas.Bool.Decides.{Decides-eqb}
use Rattle.std.proofs.lemmas.Slice.Eq.{ends_is}
use Rattle.table.specs.declared.page.Page.{Page}
use Rattle.cases.specs.Shows.{Writes, Ends}
use Rattle.std.proofs.lemmas.Bool.{OnTrue_from}
use Rattle.cases.proofs.answers.ends.Goals as goal

-- by what was written, and by what the closure answered of it
ends : (page : Option Page) (old bytes : List ℕ) (o : Option (Bor (List ℕ))) (r : Bool) (P : Bor (List ℕ) → Type 0) → IfSome o (λ t. Writes page old t.now) → MatchOption o (r ≡ false) P → ((t : Bor (List ℕ)) → P t → r ≡ pointwise ◌==◌ bytes (drop (length t.now - length bytes) t.now)) → OnTrue r (Ends page old bytes)
ends page old bytes None r P w m h = subst (λ b. OnTrue b (Ends page old bytes)) (sym m) tt
ends page old bytes (Some t) r P w m h =
    OnTrue_from r (Ends page old bytes)
    (λ yes. record { front = take (length t.now - length bytes) t.now; writes = subst (Writes page old) ((ends_is Decides-eqb t.now bytes r (h t m)).0 yes) w })

pub returns : goal.returns
returns c = ends _ _ _ c.written.result _ _ c.written.ensures c.is_some_and.ensures (λ t p. search rules)
