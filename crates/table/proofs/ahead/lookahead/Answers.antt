use Rattle.std.proofs.Common.{◌*◌, rules}
use Rattle.rankings.specs.Costs.{plus, times}
use Rattle.table.specs.Ranges.{Within}
use Rattle.table.specs.Chains.{row_at}
use Rattle.table.specs.Lookahead.{scaling}
use Rattle.table.proofs.Magnitudes.{own_within, own_modest, later_within, later_modest, both_within, scaled_modest}
use Rattle.table.proofs.ahead.lookahead.Goals as goal

pub scale-now-requires : goal.scale-now-requires
scale-now-requires c =
    let t = c.args.sound.now.table in
    let here : Within 1 t.rows c.args.k = search rules in
    own_modest t (times (t.fineness * scaling t) (row_at t c.args.k).cost) (own_within t c.args.k here)

pub scale-later-requires : goal.scale-later-requires
scale-later-requires c =
    let t = c.args.sound.now.table in
    later_modest t (times t.numerator c.weighted_sum.result) (later_within t c.weighted_sum.result c.weighted_sum.ensures.within)

pub add-requires : goal.add-requires
add-requires c =
    let t = c.args.sound.now.table in
    let k = c.args.k in
    let own = times (t.fineness * scaling t) (row_at t k).cost in
    let later = times t.numerator c.weighted_sum.result in
    let here : Within 1 t.rows k = search rules in
    rw (c.scale-now.ensures.is, c.scale-later.ensures.is)
    (scaled_modest t (plus own later) (both_within t own later (own_within t k here) (later_within t c.weighted_sum.result c.weighted_sum.ensures.within)))

pub returns-clause-within : goal.returns-clause-within
returns-clause-within c =
    let t = c.args.sound.now.table in
    let k = c.args.k in
    let own = times (t.fineness * scaling t) (row_at t k).cost in
    let later = times t.numerator c.weighted_sum.result in
    let here : Within 1 t.rows k = search rules in
    rw (c.add.ensures.is, c.scale-now.ensures.is, c.scale-later.ensures.is) (both_within t own later (own_within t k here) (later_within t c.weighted_sum.result c.weighted_sum.ensures.within))
