use Rattle.std.proofs.Common.{rules}
use Rattle.sheet.specs.Written.{Wrote, shown_of}
use Rattle.sheet.proofs.Contents.{shown_plans}
use Rattle.sheet.proofs.RoundTrips.{written_kept, written_back}
use Rattle.sheet.proofs.page_writing.write_page.Goals as goal

pub returns : goal.returns
returns c =
    let page = c.args.page.now in
    let table = page.sound.table in
    let shown = shown_of c.args.figured page.figures in
    let wrote : Wrote c.args.out.now c.args.old.now table shown c.write.result c.write.new.out = search rules in
    record {
      wrote = wrote;
      old = c.write.ensures.old;
      kept = written_kept c.args.out.now c.args.old.now c.write.new.out table shown c.write.result wrote;
      back = written_back c.args.out.now c.args.old.now c.write.new.out table shown c.write.result (shown_plans c.args.figured table.grades table.rows page.figures page.planned) wrote;
    }
