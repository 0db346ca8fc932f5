use Rattle.std.proofs.Common.{reverse, subst}
use Rattle.literal_types.specs.Waits.{FormStands}
use Rattle.literal_types.proofs.WaitLaws.{begins}
use Rattle.literal_types.proofs.found.literal.Goals as goal

pub found-requires : goal.found-requires
found-requires c =
    let (H, T, is) = c.requires in
    (H, T, begins c.args.book.now c.args.at c.push.new.self.items c.new-waiting.result.items H T c.in_ok-push.ensures.items c.new-waiting.ensures.items is)

pub literal_of-requires : goal.literal_of-requires
literal_of-requires c =
    let (H, T, is) = c.requires in
    let stands = begins c.args.book.now c.args.at c.push.new.self.items c.new-waiting.result.items H T c.in_ok-push.ensures.items c.new-waiting.ensures.items is in (
      H,
      T,
      record { sub = is.sub; target = is.home; says = is.sub_is },
      subst (λ o. FormStands c.args.book.now o (reverse c.found.new.waiting.items) H T) c.in-Some.is (c.in_ok-form.ensures H T stands),
    )

pub returns-in_ok-literal_of-in-Some-clause-literal : goal.returns-in_ok-literal_of-in-Some-clause-literal
returns-in_ok-literal_of-in-Some-clause-literal c = λ H T is.
    let stands = begins c.args.book.now c.args.at c.push.new.self.items c.new-waiting.result.items H T c.in_ok-push.ensures.items c.new-waiting.ensures.items is in
    c.in_ok-literal_of-in-Some.ensures.literal H T (record { sub = is.sub; target = is.home; says = is.sub_is })
    (subst (λ o. FormStands c.args.book.now o (reverse c.found.new.waiting.items) H T) c.in-Some.is (c.in_ok-form.ensures H T stands))

pub returns-in-None-clause-literal : goal.returns-in-None-clause-literal
returns-in-None-clause-literal c = λ H T is.
    let stands = begins c.args.book.now c.args.at c.push.new.self.items c.new-waiting.result.items H T c.in_ok-push.ensures.items c.new-waiting.ensures.items is in
    subst (λ o. FormStands c.args.book.now o (reverse c.found.new.waiting.items) H T) c.in-None.is (c.in_ok-form.ensures H T stands)
