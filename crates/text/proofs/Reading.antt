-- What a reader's answer follows from, and one field after another.
use Rattle.std.proofs.Common.{◌≡◌, ℕ, List, ◌++◌, Some, None, Option, sym, refl, ap, ◌∙◌, subst, append_assoc, arith}
use Rattle.std.specs.Option.{option_map}
use Rattle.text.specs.Reading.{Reads, both, Each, Alone}

module _ {A : Type 0} {Good : A → Type 0} {text : A → List ℕ} {bs : List ℕ} where
  pub refused : ((a : A) (rest : List ℕ) → Good a → bs ≡ text a ++ rest → ⊥) → Reads Good text bs None
  refused never = record {
    was = λ a rest e. absurd (let z : ◌≡◌ {A = ℕ} 0 1 = cc in omega arith);
    must = λ a rest g e. absurd (never a rest g e);
  }

  pub returned : (a : A) (rest : List ℕ) → Good a → bs ≡ text a ++ rest → ((b : A) (more : List ℕ) → Good b → bs ≡ text b ++ more → (b ≡ a) × (more ≡ rest)) → Reads Good text bs (Some (a, rest))
  returned a rest g e only = record {
    was = λ b more same.
        let both : ◌≡◌ {A = A × List ℕ} (a, rest) (b, more) = cc in
        let first : a ≡ b = ap (λ p. p.0) both in
        let second : rest ≡ more = ap (λ p. p.1) both in
        (subst Good first g, e ∙ ap (λ x. text x ++ rest) first ∙ ap (λ x. text b ++ x) second);
    must = λ b more h at. let p = only b more h at in ap (λ x. Some (x, rest)) (sym p.0) ∙ ap (λ x. Some (b, x)) (sym p.1);
  }

pub not_some : {A : Type 0} {x : A} → None ≡ Some x → ⊥
not_some e = let z : ◌≡◌ {A = ℕ} 0 1 = cc in omega arith

pub same_pair : {A : Type 0} (a b : A) (x y : List ℕ) → ◌≡◌ {A = Option (A × List ℕ)} (Some (a, x)) (Some (b, y)) → (a ≡ b) × (x ≡ y)
same_pair {A} a b x y e =
    let both : ◌≡◌ {A = A × List ℕ} (a, x) (b, y) = cc in
    (ap (λ p. p.0) both, ap (λ p. p.1) both)

-- one field after another
module _ {A B : Type 0} {G : A → Type 0} {f : A → List ℕ} {bs : List ℕ} where
  pub first_none : (H : B → Type 0) (h : B → List ℕ) → Reads G f bs None → Reads (Each G H) (both f h) bs None
  first_none H h r = refused (λ p rest g e. not_some (r.must p.0 (h p.1 ++ rest) g.0 (e ∙ append_assoc (f p.0) (h p.1) rest)))

  pub first_then : {H : B → Type 0} {h : B → List ℕ} (a : A) (us : List ℕ) → Reads G f bs (Some (a, us)) → (o : Option (B × List ℕ)) → Reads H h us o → Reads (Each G H) (both f h) bs (option_map (λ q. ((a, q.0), q.1)) o)
  first_then {H} {h} a us r None s =
      refused (λ p rest g e.
      let q = same_pair a p.0 us (h p.1 ++ rest) (r.must p.0 (h p.1 ++ rest) g.0 (e ∙ append_assoc (f p.0) (h p.1) rest)) in
      not_some (s.must p.1 rest g.1 q.1))
  first_then {H} {h} a us r (Some t) s =
      let x = r.was a us refl in
      let y = s.was t.0 t.1 refl in
      returned (a, t.0) t.1 (x.0, y.0) (x.1 ∙ ap (λ l. f a ++ l) y.1 ∙ sym (append_assoc (f a) (h t.0) t.1))
      (λ p rest g e.
      let q = same_pair a p.0 us (h p.1 ++ rest) (r.must p.0 (h p.1 ++ rest) g.0 (e ∙ append_assoc (f p.0) (h p.1) rest)) in
      let z = same_pair t.0 p.1 t.1 rest (s.must p.1 rest g.1 q.1) in
      ((λ i. (sym q.0 i, sym z.0 i)), sym z.1))

pub both_alone : {A B : Type 0} (G : A → Type 0) (f : A → List ℕ) (H : B → Type 0) (h : B → List ℕ) → Alone G f → Alone H h → Alone (Each G H) (both f h)
both_alone G f H h one two a b x y g k same =
    let p = one a.0 b.0 (h a.1 ++ x) (h b.1 ++ y) g.0 k.0 (sym (append_assoc (f a.0) (h a.1) x) ∙ same ∙ append_assoc (f b.0) (h b.1) y) in
    let q = two a.1 b.1 x y g.1 k.1 p.1 in
    ((λ i. (p.0 i, q.0 i)), q.1)
