-- What a write into a list keeps.
use Rattle.std.proofs.Common.{ℕ, zero, suc, ◌+◌, ◌<◌, List, [], ◌∷◌, length, get_or, set, replicate, sym, subst, get_or-set_same, below_more}

-- what holds of each element
pub set_keeps : {X : Type 0} (P : X → Type 0) (xs : List X) (g i : ℕ) (x d : X) → P x → P (get_or xs i d) → P (get_or (set xs g x) i d)
set_keeps P [] g i x d px pd = pd
set_keeps P (y ∷ xs) zero zero x d px pd = px
set_keeps P (y ∷ xs) zero (suc i) x d px pd = pd
set_keeps P (y ∷ xs) (suc g) zero x d px pd = pd
set_keeps P (y ∷ xs) (suc g) (suc i) x d px pd = set_keeps P xs g i x d px pd

-- what holds of the elements before the written one holds of one more
pub set_more : {X : Type 0} (P : X → Type 0) (xs : List X) (i : ℕ) (x d : X) → i < length xs → P x → ((k : ℕ) → k < i → P (get_or xs k d)) → (k : ℕ) → k < i + 1 → P (get_or (set xs i x) k d)
set_more P xs i x d h px below = below_more _ _ (λ k lt. set_keeps P xs i k x d px (below k lt)) (subst P (sym (get_or-set_same xs i x d h)) px)

-- what holds of an element holds of each in a list of nothing else
pub all_same : {X : Type 0} (P : X → Type 0) (n : ℕ) (x : X) (i : ℕ) → P x → P (get_or (replicate n x) i x)
all_same P zero x i px = px
all_same P (suc n) x zero px = px
all_same P (suc n) x (suc i) px = all_same P n x i px
