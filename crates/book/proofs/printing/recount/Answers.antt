use Rattle.std.proofs.Common.{inl}
use Rattle.book.proofs.printing.recount.Goals as goal

pub returns-in-Ok-clause-printed : goal.returns-in-Ok-clause-printed
returns-in-Ok-clause-printed c = inl c.in-Ok.ensures.recounted

pub returns-in-Ok-clause-only : goal.returns-in-Ok-clause-only
returns-in-Ok-clause-only c = inl c.in-Ok.ensures.recounted
