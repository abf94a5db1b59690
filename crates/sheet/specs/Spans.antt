-- Where labels lie in a sheet. Assumes nothing.
use Rattle.std.specs.Prelude.{ℕ, ◌<◌, ◌≤◌, List, slice_index_or}
use Rattle.sheet.specs.declared.labels.Span.{Span}

-- inside a sheet of that many bytes
abbrev pub SpanIn : ℕ → Span → Type 0
SpanIn n s = (s.start ≤ s.end) × (s.end ≤ n)

-- what stands for a label past the end of a list
abbrev pub span0 : Span
span0 = record { start = 0; end = 0 }

-- the first count of them
abbrev pub SpansIn : ℕ → ℕ → List Span → Type 0
SpansIn count n spans = (i : ℕ) → i < count → SpanIn n (slice_index_or spans i span0)
