use Rattle.std.proofs.Common.{rules}
use Rattle.book.proofs.Recounts.{recounts, recounts_told}
use Rattle.book.proofs.printing.recounted.Goals as goal

pub returns : goal.returns
returns c =
    record {
      recounted = recounts _ _ _ c.new-book.result.page c.open.new.self.page c.sweep.new.self.page c.in_ok-_count._count _ c.in_ok-open.ensures.page c.in_ok-_count.ensures.page c.write.ensures.written;
      told = recounts_told _ _ _ c.new-book.result.page c.open.new.self.page c.sweep.new.self.page c.in_ok-_count._count _ c.in_ok-open.ensures.page c.in_ok-_count.ensures.page c.write.ensures.written c.write.ensures.old (search rules);
    }
