use Rattle.std.proofs.Common.{◌≡◌, ◌⊎◌, ◌||◌, ◌++◌, Bool, List, ap, ◌∙◌}
use Rattle.std.specs.List.{each_same, Contains}
use Rattle.std.proofs.lemmas.List.Elements.{Contains-append_cases}
use Rattle.std.proofs.lemmas.Result.{IfOk-weaker}
use Rattle.antichains.specs.Antichains.{HaveSameTruth, IsWithin, some_all}
use Rattle.antichains.proofs.Truth.{some_all-append}
use Rattle.antichains.proofs.sums.Antichain.join.Given.{Over}
use Rattle.antichains.proofs.sums.Antichain.join.Goals as goal

-- what is put together is one list after the other
both : (g : Over) (c : goal.After-from_products g) → c.extend_from_slice.new.self.items ≡ c.args.self.now ++ c.args.other.now
both g c =
    let left = each_same c.self.inside.products.items c.in_ok-products.products.items c.in_ok-products.ensures.cases.0 ∙ c.self.view_is in
    let added = c.in_ok-extend_from_slice.ensures.items in
    let right = each_same c.products.result.now added.0 added.2 ∙ c.products.ensures.value in
    added.1 ∙ ap (λ xs. xs ++ added.0) left ∙ ap (λ xs. c.args.self.now ++ xs) right

pub returns-clause-among : goal.returns-clause-among
returns-clause-among g c =
    let Product : Type 0 = List g.row.T.Denot in
    let Sum : Type 0 = List Product in
    let Among : Sum → Type 0 = λ sum. (product : Product) → Contains sum product → Contains c.args.self.now product ⊎ Contains c.args.other.now product in
    IfOk-weaker c.from_products.result (λ sum. IsWithin sum c.extend_from_slice.new.self.items) Among
    (λ sum within product here.
    Contains-append_cases c.args.self.now c.args.other.now product (rw (both g c) at (within.each product here)))
    c.from_products.ensures.among

pub returns-clause-truth : goal.returns-clause-truth
returns-clause-truth g c =
    let Sum : Type 0 = List (List g.row.T.Denot) in
    let Joins : Sum → Type 0 = λ sum. (test : g.row.T.Denot → Bool) → some_all test sum ≡ (some_all test c.args.self.now || some_all test c.args.other.now) in
    IfOk-weaker c.from_products.result (λ sum. HaveSameTruth sum c.extend_from_slice.new.self.items) Joins
    (λ sum says test. says test ∙ ap (some_all test) (both g c) ∙ some_all-append test c.args.self.now c.args.other.now)
    c.from_products.ensures.truth
