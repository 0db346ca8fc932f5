use Rattle.std.proofs.Common.{reverse, sym, subst}
use Rattle.trees.specs.Trees.{id}
use Rattle.literal_types.specs.declared.waiting.Waiting.TheVariants as waiting
use Rattle.literal_types.specs.Waits.{Joins, Waits}
use Rattle.literal_types.proofs.GrowthLaws.{extends_extends, entry_grows}
use Rattle.literal_types.proofs.WaitLaws.{popped_one, none_left}
use Rattle.literal_types.proofs.JoinLaws.{joins_nothing, joins_past}
use Rattle.literal_types.proofs.joins.last_waiting.Goals as goal

pub past-requires : goal.past-requires
past-requires c =
    let (H, T, K, A, from, w) = c.requires in
    let order = popped_one c.args.waiting.now.items c.pop.new.self.items c.in-Some.last (waiting.Past c.in-Past.below c.in-Past.entry) c.in-Some.ensures.items c.in-Past.is in
    let (M, is, below, rest) = subst (λ ws. Waits c.args.book.now ws H T K A) order w in
    (K, M, K, id, c.in_ok-sub-in-Past.ensures.typed K below, entry_grows c.in-Past.entry K M c.in_ok-sub-in-Past.ensures.extends is)

pub returns-in_err-past-in-Past-clause-extends : goal.returns-in_err-past-in-Past-clause-extends
returns-in_err-past-in-Past-clause-extends c = extends_extends c.in_ok-sub-in-Past.ensures.extends c.in_err-past-in-Past.ensures.extends

pub returns-in_ok-past-in-Past-clause-extends : goal.returns-in_ok-past-in-Past-clause-extends
returns-in_ok-past-in-Past-clause-extends c = extends_extends c.in_ok-sub-in-Past.ensures.extends c.in_ok-past-in-Past.ensures.extends

pub returns-in_default-clause-joins : goal.returns-in_default-clause-joins
returns-in_default-clause-joins c = λ H T K A from w.
    let old = none_left c.args.waiting.now.items c.args.waiting.now.len c.args.waiting.now.ok.0 c.in_default.ensures.cases.0 in
    let new = none_left c.pop.new.self.items c.pop.new.self.len c.pop.new.self.ok.0 c.in_default.ensures.cases.1 in
    subst (λ ws. Joins c.args.book.now c.identity_from.new.book c.in_ok-identity_from.field-0 ws H T K A) (sym new)
    (joins_nothing c.args.book.now c.identity_from.new.book c.in_ok-identity_from.field-0 H T K A (c.in_ok-identity_from.ensures.typed H from) (subst (λ ws. Waits c.args.book.now ws H T K A) old w))

pub returns-in_ok-past-in-Past-clause-joins : goal.returns-in_ok-past-in-Past-clause-joins
returns-in_ok-past-in-Past-clause-joins c = λ H T K A from w.
    let order = popped_one c.args.waiting.now.items c.pop.new.self.items c.in-Some.last (waiting.Past c.in-Past.below c.in-Past.entry) c.in-Some.ensures.items c.in-Past.is in
    joins_past c.args.book.now c.past.new.book c.in_ok-past-in-Past.field-0 (reverse c.pop.new.self.items) H T K A c.in-Past.below c.in-Past.entry
    (λ M is below. c.in_ok-past-in-Past.ensures.typed K M K id (c.in_ok-sub-in-Past.ensures.typed K below) (entry_grows c.in-Past.entry K M c.in_ok-sub-in-Past.ensures.extends is))
    (subst (λ ws. Waits c.args.book.now ws H T K A) order w)
