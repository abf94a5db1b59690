-- What the program prints. Assumes nothing.
use Rattle.std.specs.Prelude.{◌≡◌, ℕ, ◌<◌, ◌⊎◌, List, ◌++◌, length, Some, Ok, Err, codes, Result}
use Rattle.rankings.specs.Models.{by_money, both_down, both_up}
use Rattle.table.specs.declared.page.Page.{Page}
use Rattle.text.specs.Fields.{natural_text}
use Rattle.text.specs.Writing.{put}
use Rattle.sheet.specs.declared.whole.Sheet.{Sheet}
use Rattle.sheet.specs.Written.{Wrote}
use Rattle.book.specs.declared.calls.SweepCount.{SweepCount}
use Rattle.book.specs.declared.refusal.Refusal.{Refusal}
use Rattle.book.specs.Calls.{PageOf, NotOpened, TextTold, SweptPage}
use Rattle.book.specs.Refusals.{number_of, layer_of, places_of}

-- `no`, the number, the layer and both places, with blanks between and the end of the line after them
abbrev pub refusal_text : Refusal → List ℕ
refusal_text e = (((codes "no " ++ natural_text 32 (number_of e)) ++ natural_text 32 (layer_of e)) ++ natural_text 32 (places_of e).0) ++ natural_text 10 (places_of e).1

-- the page that the sheet opens to by money only, and the page after at most so many sweeps of it
pub record Recount (sheet : List ℕ) (n : ℕ) (q : Page) : Type 0 where
  pub opened : Page
  pub says : (s : Sheet) × PageOf by_money sheet opened s
  pub count : SweepCount
  pub swept : SweptPage by_money both_down both_up n opened count (Some q)

-- a recount is the sheet with its figures after the sweeps, or a refusal, which leaves the buffer
abbrev pub Recounted : List ℕ → List ℕ → Result ℕ Refusal → List ℕ → Type 0
Recounted sheet out (Ok n) after = (q : Page) × (Recount sheet 200 q × Wrote out sheet q.sound.table (Some q.figures) (Ok n) after)
Recounted sheet out (Err e) after = after ≡ out

-- where a recount is refused, the sheet is not opened
abbrev pub RecountTold : List ℕ → Result ℕ Refusal → Type 0
RecountTold sheet (Ok n) = Unit {0}
RecountTold sheet (Err e) = NotOpened by_money sheet e × TextTold sheet e

-- what is printed: such a sheet, or the line of a refusal, or nothing where that line has no room
abbrev pub Printed : List ℕ → List ℕ → ℕ → List ℕ → Type 0
Printed sheet out n after =
    ((q : Page) × (Recount sheet 200 q × Wrote out sheet q.sound.table (Some q.figures) (Ok n) after))
    ⊎ (((e : Refusal) × ((n ≡ length (refusal_text e)) × (after ≡ put out 0 (refusal_text e))))
    ⊎ ((e : Refusal) × ((n ≡ 0) × (length out < length (refusal_text e)))))

-- and no more than that: such a sheet, or the line of the refusal by which it is not opened
abbrev pub PrintedOnly : List ℕ → List ℕ → ℕ → List ℕ → Type 0
PrintedOnly sheet out n after =
    ((q : Page) × (Recount sheet 200 q × Wrote out sheet q.sound.table (Some q.figures) (Ok n) after))
    ⊎ ((e : Refusal) × (NotOpened by_money sheet e × TextTold sheet e × (n ≡ length (refusal_text e)) × (after ≡ put out 0 (refusal_text e))))
