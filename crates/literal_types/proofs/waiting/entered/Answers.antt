use Rattle.std.proofs.Common.{◌-◌, sym, ap, subst, arith}
use Rattle.literal_types.specs.declared.waiting.Waiting.TheVariants as waiting
use Rattle.literal_types.specs.Waits.{IsEntered, waiting_weight}
use Rattle.literal_types.proofs.WaitLaws.{pushed_one, pushed_two, enters_composite, enters_formula, enters_identity, enters_on_face, enters_past, enters_pushed, enters_term}
use Rattle.literal_types.proofs.waiting.entered.Goals as goal

pub returns-in_ok-push-in-Composite-2-clause-stands : goal.returns-in_ok-push-in-Composite-2-clause-stands
returns-in_ok-push-in-Composite-2-clause-stands c = λ H T S at.
    let order = pushed_two c.push-in-Composite.new.self.items c.push.new.self.items c.args.waiting.now.items (waiting.Sub c.in-Composite.first) (waiting.Sub c.in-Composite.second) c.in_ok-push-in-Composite.ensures.items c.in_ok-push-in-Composite-2.ensures.items in
    subst (λ ws. IsEntered c.args.book.now c.args.index ws H T S) (sym order) (enters_composite at c.in-Composite.first c.in-Composite.second (c.in-Composite.ensures.unfolds at.waits.0 at.home at.waits.1 at.waits.2))

pub returns-in_ok-push-in-Past-2-clause-stands : goal.returns-in_ok-push-in-Past-2-clause-stands
returns-in_ok-push-in-Past-2-clause-stands c = λ H T S at.
    let order = pushed_two c.push-in-Past-2.new.self.items c.push-in-Past.new.self.items c.args.waiting.now.items (waiting.Past c.in-Past.below c.in-Past.entry) (waiting.Sub c.in-Past.below) c.in_ok-push-in-Past.ensures.items c.in_ok-push-in-Past-2.ensures.items in
    subst (λ ws. IsEntered c.args.book.now c.args.index ws H T S) (sym order) (enters_past at c.in-Past.below c.in-Past.entry (c.in-Past.ensures.unfolds at.waits.0 at.home at.waits.1 at.waits.2))

pub returns-in_ok-push-in-Past-2-clause-less : goal.returns-in_ok-push-in-Past-2-clause-less
returns-in_ok-push-in-Past-2-clause-less c =
    let order = pushed_two c.push-in-Past-2.new.self.items c.push-in-Past.new.self.items c.args.waiting.now.items (waiting.Past c.in-Past.below c.in-Past.entry) (waiting.Sub c.in-Past.below) c.in_ok-push-in-Past.ensures.items c.in_ok-push-in-Past-2.ensures.items in
    let same = ap waiting_weight order in
    let less = c.in-Past.ensures.less in
    omega (arith, same, less)

pub returns-in_ok-push-in-Pushed-clause-stands : goal.returns-in_ok-push-in-Pushed-clause-stands
returns-in_ok-push-in-Pushed-clause-stands c = λ H T S at.
    let order = pushed_one c.push-in-Pushed.new.self.items c.args.waiting.now.items (waiting.Sub c.in-Pushed.below) c.in_ok-push-in-Pushed.ensures.items in
    subst (λ ws. IsEntered c.args.book.now (c.args.index - 1) ws H T S) (sym order) (enters_pushed at c.in-Pushed.below c.in-Pushed.term c.if-index-eq0.false (c.in-Pushed.ensures.unfolds at.waits.0 at.home at.waits.1 at.waits.2))

pub returns-in_ok-push-in-Formula-clause-stands : goal.returns-in_ok-push-in-Formula-clause-stands
returns-in_ok-push-in-Formula-clause-stands c = λ H T S at.
    let order = pushed_one c.push-in-Formula.new.self.items c.args.waiting.now.items (waiting.Sub c.in-Formula.below) c.in_ok-push-in-Formula.ensures.items in
    subst (λ ws. IsEntered c.args.book.now (c.args.index - 1) ws H T S) (sym order) (enters_formula at c.in-Formula.below (c.in-Formula.ensures.unfolds at.waits.0 at.home at.waits.1 at.waits.2))

pub returns-then-index-eq0-clause-stands : goal.returns-then-index-eq0-clause-stands
returns-then-index-eq0-clause-stands c = λ H T S at.
    enters_term at c.in-Pushed.below c.in-Pushed.term c.if-index-eq0.true (c.in-Pushed.ensures.unfolds at.waits.0 at.home at.waits.1 at.waits.2)

pub returns-in-Identity-clause-stands : goal.returns-in-Identity-clause-stands
returns-in-Identity-clause-stands c = λ H T S at.
    enters_identity at c.in-Identity.field-0 (c.in-Identity.ensures.unfolds at.waits.0 at.home at.waits.1 at.waits.2)

pub returns-in_ok-push-in-OnFace-clause-stands : goal.returns-in_ok-push-in-OnFace-clause-stands
returns-in_ok-push-in-OnFace-clause-stands c = λ H T S at.
    let order = pushed_one c.push-in-OnFace.new.self.items c.args.waiting.now.items (waiting.Sub c.in-OnFace.below) c.in_ok-push-in-OnFace.ensures.items in
    subst (λ ws. IsEntered c.args.book.now c.args.index ws H T S) (sym order) (enters_on_face at c.in-OnFace.below (c.in-OnFace.ensures.unfolds at.waits.0 at.home at.waits.1 at.waits.2))
