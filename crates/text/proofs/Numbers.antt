-- Numbers at the front of bytes.
use Rattle.std.proofs.Common.{◌≡◌, ℕ, suc, ◌-◌, ◌^◌, ◌<◌, List, [], ◌∷◌, ◌++◌, length, get_or, take, drop, ℤ, pos, negsuc, Some, None, decimal, sym, refl, ap, ◌∙◌, subst, ⊎_elim, append_assoc, arith}
use Rattle.std.specs.Str.Parse.{digits_value}
use Rattle.std.specs.Int.{IsInRange}
use Rattle.std.specs.Char.{digit_value}
use Rattle.std.proofs.lemmas.Slice.{first_rest}
use Rattle.std.proofs.lemmas.List.{get_or_append_left}
use Rattle.std.proofs.lemmas.Bool.{cases_lt}
use Rattle.std.proofs.lemmas.Str.Parse.{IsNumeralModel, numerals_by_value, tells_by_index, digits_value_short, digit_at}
use Rattle.std.proofs.lemmas.Fmt.{decimal_is_IsNumeral, decimal_nonempty, decimal_digit, first_decimal, length-decimal-le, decimal-digits_value}
use Rattle.std.proofs.lemmas.Bool.Decides.{nat_tests}
use Rattle.text.specs.declared.end.End.{End}
use Rattle.text.specs.declared.end.End.TheVariants as field
use Rattle.text.specs.Reading.{Reads, Alone}
use Rattle.text.specs.Fields.{byte_of, Filled, ended, Short, Small, natural_text, number_text, Ends}
use Rattle.text.proofs.Reading.{refused, returned, not_some, same_pair}
use Rattle.text.proofs.Labels.{filled_alone}

pub ends : (e : End) → Ends (byte_of e)
ends field.Blank = omega arith
ends field.Line = omega arith

abbrev AllDigits : List ℕ → Type 0
AllDigits ds = (i : ℕ) → i < length ds → IsInRange 48 57 (get_or ds i 0)

own : IsNumeralModel AllDigits (digits_value 10)
own = numerals_by_value AllDigits tells_by_index

-- the digits of a number of at most eleven
pub decimal_filled : (m : ℕ) → Short m → Filled 48 57 11 (decimal m)
decimal_filled m short =
    let small : m < 2 ^ 64 = omega arith in
    record {
      some = decimal_nonempty m small;
      most = length-decimal-le 11 m (omega arith) short small;
      all = λ k lt. digit_at (decimal m) k (decimal_is_IsNumeral m small).0.1 lt;
    }

pub value_short : (ds : List ℕ) → Filled 48 57 11 ds → digits_value 10 ds < 10 ^ 11
value_short ds good = digits_value_short own ds 11 good.all good.most

-- digits with no leading zero are those of their value
pub spelt : (ds : List ℕ) → Filled 48 57 11 ds → (1 < length ds → get_or ds 0 0 ≡ 48 → ⊥) → decimal (digits_value 10 ds) ≡ ds
spelt ds good front = decimal-digits_value own ds good.all good.some (λ z. ⊎_elim (λ lt. absurd (front lt z)) (λ le. omega (arith, good.some)) (cases_lt 1 (length ds))) (let h = value_short ds good in omega arith)

-- no number of several digits begins with a zero
pub no_zero : (m : ℕ) → Short m → 1 < length (decimal m) → get_or (decimal m) 0 0 ≡ 48 → ⊥
no_zero m short two zero =
    ⊎_elim
    (λ lt. let small : m < 2 ^ 64 = omega arith in omega (arith, first_decimal m lt small))
    (λ le. let none : m ≡ 0 = omega arith in omega (arith, ap (λ k. length (decimal k)) none, ap length (decimal_digit 0 (omega arith))))
    (cases_lt 0 m)

module _ (end : ℕ) (bs : List ℕ) where
  pub natural_none : Reads (Filled 48 57 11) (ended end) bs None → Reads Short (natural_text end) bs None
  natural_none r = refused (λ m rest s e. not_some (r.must (decimal m) rest (decimal_filled m s) e))

  module _ (ds us : List ℕ) (r : Reads (Filled 48 57 11) (ended end) bs (Some (ds, us))) where
    only : (m : ℕ) (rest : List ℕ) → Short m → bs ≡ natural_text end m ++ rest → (ds ≡ decimal m) × (us ≡ rest)
    only m rest s e = same_pair ds (decimal m) us rest (r.must (decimal m) rest (decimal_filled m s) e)

    pub natural_zero : 1 < length ds → get_or ds 0 0 ≡ 48 → Reads Short (natural_text end) bs None
    natural_zero two zero =
        refused (λ m rest s e.
        let is = (only m rest s e).0 in
        no_zero m s (subst (λ l. 1 < length l) is two) (subst (λ l. get_or l 0 0 ≡ 48) is zero))

    pub natural_some : (1 < length ds → get_or ds 0 0 ≡ 48 → ⊥) → Reads Short (natural_text end) bs (Some (digits_value 10 ds, us))
    natural_some front =
        let told = r.was ds us refl in
        returned (digits_value 10 ds) us (value_short ds told.0) (told.1 ∙ ap (λ l. ended end l ++ us) (sym (spelt ds told.0 front)))
        (λ m rest s e.
        let is = only m rest s e in
        let small : m < 2 ^ 64 = omega arith in
        (sym (ap (digits_value 10) is.0 ∙ (decimal_is_IsNumeral m small).1), sym is.1))

pub digit_is : (c : ℕ) → IsInRange 48 57 c → digit_value c ≡ c - 48
digit_is c h = grind (arith, nat_tests)

-- a number with no minus begins with a digit
pub head_digit : (m : ℕ) (us : List ℕ) (b : ℕ) (ds : List ℕ) → Short m → b ∷ ds ≡ decimal m ++ us → IsInRange 48 57 b
head_digit m us b ds short e =
    let small : m < 2 ^ 64 = omega arith in
    let some = decimal_nonempty m small in
    subst (IsInRange 48 57) (sym (ap (λ l. get_or l 0 0) e ∙ get_or_append_left (decimal m) us 0 0 some)) (digit_at (decimal m) 0 (decimal_is_IsNumeral m small).0.1 some)

-- the front byte, and the rest as a pattern binds it
pub front1 : (bs : List ℕ) (b : ℕ) → 0 < length bs → get_or bs 0 0 ≡ b → bs ≡ b ∷ take (length bs - 1) (drop 1 bs)
front1 bs b some e = first_rest bs 0 some ∙ ap (λ x. x ∷ take (length bs - 1) (drop 1 bs)) e

-- bytes that begin with a minus begin with no number but a negative one
pub minus_must : (end : ℕ) (ds : List ℕ) (z : ℤ) (rest : List ℕ) → Small z → 45 ∷ ds ≡ number_text end z ++ rest → (k : ℕ) × (z ≡ negsuc k) × Short (suc k) × (ds ≡ natural_text end (suc k) ++ rest)
minus_must end ds (pos n) rest g e = absurd (omega (arith, head_digit n (end ∷ rest) 45 ds g (e ∙ append_assoc (decimal n) (end ∷ []) rest)))
minus_must end ds (negsuc k) rest g e = (k, refl, g, ap (drop 1) e)

-- and others with none but one that has no minus
pub plain_must : (end : ℕ) (bs : List ℕ) (z : ℤ) (rest : List ℕ) → (get_or bs 0 0 ≡ 45 → ⊥) → Small z → bs ≡ number_text end z ++ rest → (k : ℕ) × (z ≡ pos k) × Short k × (bs ≡ natural_text end k ++ rest)
plain_must end bs (pos n) rest other g e = (n, refl, g, e)
plain_must end bs (negsuc k) rest other g e = absurd (other (ap (λ l. get_or l 0 0) e))

module _ (end : ℕ) (bs ds : List ℕ) (e : bs ≡ 45 ∷ ds) where
  pub minus_none : Reads Short (natural_text end) ds None → Reads Small (number_text end) bs None
  minus_none r = refused (λ z rest g at. let p = minus_must end ds z rest g (sym e ∙ at) in not_some (r.must (suc p.0) rest p.2 p.3))

  pub minus_zero : (us : List ℕ) → Reads Short (natural_text end) ds (Some (0, us)) → Reads Small (number_text end) bs None
  minus_zero us r = refused (λ z rest g at. let p = minus_must end ds z rest g (sym e ∙ at) in omega (arith, (same_pair 0 (suc p.0) us rest (r.must (suc p.0) rest p.2 p.3)).0))

  pub minus_some : (k : ℕ) (us : List ℕ) → Reads Short (natural_text end) ds (Some (suc k, us)) → Reads Small (number_text end) bs (Some (negsuc k, us))
  minus_some k us r =
      let h = r.was (suc k) us refl in
      returned (negsuc k) us h.0 (e ∙ ap (λ l. 45 ∷ l) h.1)
      (λ z rest g at.
      let p = minus_must end ds z rest g (sym e ∙ at) in
      let q = same_pair (suc k) (suc p.0) us rest (r.must (suc p.0) rest p.2 p.3) in
      let same : p.0 ≡ k = omega (arith, q.0) in
      (p.1 ∙ ap negsuc same, sym q.1))

module _ (end : ℕ) (bs : List ℕ) (other : get_or bs 0 0 ≡ 45 → ⊥) where
  pub plain_none : Reads Short (natural_text end) bs None → Reads Small (number_text end) bs None
  plain_none r = refused (λ z rest g at. let p = plain_must end bs z rest other g at in not_some (r.must p.0 rest p.2 p.3))

  pub plain_some : (k : ℕ) (us : List ℕ) → Reads Short (natural_text end) bs (Some (k, us)) → Reads Small (number_text end) bs (Some (pos k, us))
  plain_some k us r =
      let h = r.was k us refl in
      returned (pos k) us h.0 h.1
      (λ z rest g at.
      let p = plain_must end bs z rest other g at in
      let q = same_pair k p.0 us rest (r.must p.0 rest p.2 p.3) in
      (p.1 ∙ ap pos (sym q.0), sym q.1))

-- the text of a number is the front of no other's
natural_alone : (e : ℕ) → Ends e → Alone Short (natural_text e)
natural_alone e ends a b x y g h same =
    let p = filled_alone 48 57 11 e (λ i. omega arith) (decimal a) (decimal b) x y (decimal_filled a g) (decimal_filled b h) same in
    let fits : a < 2 ^ 64 = omega arith in
    let fits' : b < 2 ^ 64 = omega arith in
    (sym (decimal_is_IsNumeral a fits).1 ∙ ap (digits_value 10) p.0 ∙ (decimal_is_IsNumeral b fits').1, p.1)

pub number_alone : (e : ℕ) → Ends e → Alone Small (number_text e)
number_alone e ends (pos a) (pos b) x y g h same = let p = natural_alone e ends a b x y g h same in (ap pos p.0, p.1)
number_alone e ends (pos a) (negsuc b) x y g h same = absurd (omega (arith, head_digit a (e ∷ x) 45 (natural_text e (suc b) ++ y) g (sym same ∙ append_assoc (decimal a) (e ∷ []) x)))
number_alone e ends (negsuc a) (pos b) x y g h same = absurd (omega (arith, head_digit b (e ∷ y) 45 (natural_text e (suc a) ++ x) h (same ∙ append_assoc (decimal b) (e ∷ []) y)))
number_alone e ends (negsuc a) (negsuc b) x y g h same =
    let p = natural_alone e ends (suc a) (suc b) x y g h (ap (drop 1) same) in
    (ap negsuc (omega (arith, p.0)), p.1)
