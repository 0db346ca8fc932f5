use Rattle.std.proofs.Common.{◌≡◌, ◌+◌, ◌<◌, ◌∙◌, ℕ, List, Option, Some, IsSome, sym, ap, subst, arith}
use Rattle.std.specs.Prelude.{option_and_then}
use Rattle.std.specs.List.{All}
use Rattle.trees.specs.Trees.{shift_by}
use Rattle.trees.specs.Things.{Thing, ASubst, made, meanings, instance_of, pushed_on, then_of, with_variable, with_a_name, with_a_face}
use Rattle.rows.proofs.MeaningLaws.{made-count}
use Rattle.trees.proofs.OperatorLaws.{kids_of-most}
use Rattle.book.specs.Shown.{row_over}
use Rattle.book_writer.specs.Means.{lines_mean, IsFile}
use Rattle.book_writer.proofs.CopyLaws.{both-copied, one-copied, kids-copied}
use Rattle.book_writer.proofs.PushLaws.{first-fits, second-fits}
use Rattle.book_writer.proofs.copies.add_row.Goals as goal

pub bounds-places-term : goal.bounds-places-term
bounds-places-term c = let early = rw c.in-Term-Instance.field-0-is at c.in-Term-Instance.ensures.earlier in let low = early 0 0 (omega arith) in omega (arith, c.requires.next, low)

pub bounds-places-sub : goal.bounds-places-sub
bounds-places-sub c = let early = rw c.in-Term-Instance.field-0-is at c.in-Term-Instance.ensures.earlier in let low = early 1 0 (omega arith) in omega (arith, c.requires.next, low)

pub instance-requires : goal.instance-requires
instance-requires c =
    let may = c.requires.may.1 in
    let g = c.requires.may.0 in
    let e = both-copied g c.args.lines.now c.args.places.now may.placed c.args.row c.requires.next instance_of c.in-Term-Instance.term.0 c.in-Term-Instance.sub.0 (row_over c.args.book.now c.args.row g) may.there (rw c.in-Term-Instance.field-0-is at (c.in-Term-Instance.ensures.over g)) (rw c.in-Term-Instance.field-0-is at c.in-Term-Instance.ensures.earlier) in subst (λ (o : Option Thing). IsSome o) (sym e) may.there

pub returns-in_ok-instance-in-Term-Instance-clause-meaning : goal.returns-in_ok-instance-in-Term-Instance-clause-meaning
returns-in_ok-instance-in-Term-Instance-clause-meaning c = λ f h.
    c.in_ok-instance-in-Term-Instance.ensures.meaning ∙ both-copied f c.args.lines.now c.args.places.now h.placed c.args.row c.requires.next instance_of c.in-Term-Instance.term.0 c.in-Term-Instance.sub.0 (row_over c.args.book.now c.args.row f) h.there (rw c.in-Term-Instance.field-0-is at (c.in-Term-Instance.ensures.over f)) (rw c.in-Term-Instance.field-0-is at c.in-Term-Instance.ensures.earlier)

pub bounds-places-sub-in-Subst-Push : goal.bounds-places-sub-in-Subst-Push
bounds-places-sub-in-Subst-Push c = let early = rw c.in-Subst-Push.field-0-is at c.in-Subst-Push.ensures.earlier in let low = early 0 0 (omega arith) in omega (arith, c.requires.next, low)

pub bounds-places-term-in-Subst-Push : goal.bounds-places-term-in-Subst-Push
bounds-places-term-in-Subst-Push c = let early = rw c.in-Subst-Push.field-0-is at c.in-Subst-Push.ensures.earlier in let low = early 1 0 (omega arith) in omega (arith, c.requires.next, low)

pub push-requires : goal.push-requires
push-requires c =
    let may = c.requires.may.1 in
    let g = c.requires.may.0 in
    let e = both-copied g c.args.lines.now c.args.places.now may.placed c.args.row c.requires.next pushed_on c.in-Subst-Push.sub.0 c.in-Subst-Push.term.0 (row_over c.args.book.now c.args.row g) may.there (rw c.in-Subst-Push.field-0-is at (c.in-Subst-Push.ensures.over g)) (rw c.in-Subst-Push.field-0-is at c.in-Subst-Push.ensures.earlier) in subst (λ (o : Option Thing). IsSome o) (sym e) may.there

pub returns-in_ok-push-in-Subst-Push-clause-meaning : goal.returns-in_ok-push-in-Subst-Push-clause-meaning
returns-in_ok-push-in-Subst-Push-clause-meaning c = λ f h.
    c.in_ok-push-in-Subst-Push.ensures.meaning ∙ both-copied f c.args.lines.now c.args.places.now h.placed c.args.row c.requires.next pushed_on c.in-Subst-Push.sub.0 c.in-Subst-Push.term.0 (row_over c.args.book.now c.args.row f) h.there (rw c.in-Subst-Push.field-0-is at (c.in-Subst-Push.ensures.over f)) (rw c.in-Subst-Push.field-0-is at c.in-Subst-Push.ensures.earlier)

pub bounds-places-first : goal.bounds-places-first
bounds-places-first c = let early = rw c.in-Subst-Then.field-0-is at c.in-Subst-Then.ensures.earlier in let low = early 0 0 (omega arith) in omega (arith, c.requires.next, low)

pub bounds-places-second : goal.bounds-places-second
bounds-places-second c = let early = rw c.in-Subst-Then.field-0-is at c.in-Subst-Then.ensures.earlier in let low = early 1 0 (omega arith) in omega (arith, c.requires.next, low)

pub then-requires-clause-kinds : goal.then-requires-clause-kinds
then-requires-clause-kinds c =
    let may = c.requires.may.1 in
    let g = c.requires.may.0 in
    let e = both-copied g c.args.lines.now c.args.places.now may.placed c.args.row c.requires.next then_of c.in-Subst-Then.first.0 c.in-Subst-Then.second.0 (row_over c.args.book.now c.args.row g) may.there (rw c.in-Subst-Then.field-0-is at (c.in-Subst-Then.ensures.over g)) (rw c.in-Subst-Then.field-0-is at c.in-Subst-Then.ensures.earlier) in subst (λ (o : Option Thing). IsSome o) (sym e) may.there

pub returns-in_ok-then-in-Subst-Then-clause-meaning : goal.returns-in_ok-then-in-Subst-Then-clause-meaning
returns-in_ok-then-in-Subst-Then-clause-meaning c = λ f h.
    c.in_ok-then-in-Subst-Then.ensures.meaning ∙ both-copied f c.args.lines.now c.args.places.now h.placed c.args.row c.requires.next then_of c.in-Subst-Then.first.0 c.in-Subst-Then.second.0 (row_over c.args.book.now c.args.row f) h.there (rw c.in-Subst-Then.field-0-is at (c.in-Subst-Then.ensures.over f)) (rw c.in-Subst-Then.field-0-is at c.in-Subst-Then.ensures.earlier)

pub bounds-places-ctx : goal.bounds-places-ctx
bounds-places-ctx c = let early = rw c.in-Context-Var.field-0-is at c.in-Context-Var.ensures.earlier in let low = early 0 0 (omega arith) in omega (arith, c.requires.next, low)

pub bounds-places-ty : goal.bounds-places-ty
bounds-places-ty c = let early = rw c.in-Context-Var.field-0-is at c.in-Context-Var.ensures.earlier in let low = early 1 0 (omega arith) in omega (arith, c.requires.next, low)

pub ctx_var-requires : goal.ctx_var-requires
ctx_var-requires c =
    let may = c.requires.may.1 in
    let g = c.requires.may.0 in
    let e = both-copied g c.args.lines.now c.args.places.now may.placed c.args.row c.requires.next with_variable c.in-Context-Var.ctx.0 c.in-Context-Var.ty.0 (row_over c.args.book.now c.args.row g) may.there (rw c.in-Context-Var.field-0-is at (c.in-Context-Var.ensures.over g)) (rw c.in-Context-Var.field-0-is at c.in-Context-Var.ensures.earlier) in subst (λ (o : Option Thing). IsSome o) (sym e) may.there

pub returns-in_ok-ctx_var-in-Context-Var-clause-meaning : goal.returns-in_ok-ctx_var-in-Context-Var-clause-meaning
returns-in_ok-ctx_var-in-Context-Var-clause-meaning c = λ f h.
    c.in_ok-ctx_var-in-Context-Var.ensures.meaning ∙ both-copied f c.args.lines.now c.args.places.now h.placed c.args.row c.requires.next with_variable c.in-Context-Var.ctx.0 c.in-Context-Var.ty.0 (row_over c.args.book.now c.args.row f) h.there (rw c.in-Context-Var.field-0-is at (c.in-Context-Var.ensures.over f)) (rw c.in-Context-Var.field-0-is at c.in-Context-Var.ensures.earlier)

pub bounds-places-ctx-in-Context-Name : goal.bounds-places-ctx-in-Context-Name
bounds-places-ctx-in-Context-Name c = let early = rw c.in-Context-Name.field-0-is at c.in-Context-Name.ensures.earlier in let low = early 0 0 (omega arith) in omega (arith, c.requires.next, low)

pub ctx_name-requires : goal.ctx_name-requires
ctx_name-requires c =
    let may = c.requires.may.1 in
    let g = c.requires.may.0 in
    let e = one-copied g c.args.lines.now c.args.places.now may.placed c.args.row c.requires.next with_a_name c.in-Context-Name.ctx.0 (row_over c.args.book.now c.args.row g) may.there (rw c.in-Context-Name.field-0-is at (c.in-Context-Name.ensures.over g)) (rw c.in-Context-Name.field-0-is at c.in-Context-Name.ensures.earlier) in subst (λ (o : Option Thing). IsSome o) (sym e) may.there

pub returns-in_ok-ctx_name-in-Context-Name-clause-meaning : goal.returns-in_ok-ctx_name-in-Context-Name-clause-meaning
returns-in_ok-ctx_name-in-Context-Name-clause-meaning c = λ f h.
    c.in_ok-ctx_name-in-Context-Name.ensures.meaning ∙ one-copied f c.args.lines.now c.args.places.now h.placed c.args.row c.requires.next with_a_name c.in-Context-Name.ctx.0 (row_over c.args.book.now c.args.row f) h.there (rw c.in-Context-Name.field-0-is at (c.in-Context-Name.ensures.over f)) (rw c.in-Context-Name.field-0-is at c.in-Context-Name.ensures.earlier)

pub bounds-places-ctx-in-Context-Face : goal.bounds-places-ctx-in-Context-Face
bounds-places-ctx-in-Context-Face c = let early = rw c.in-Context-Face.field-0-is at c.in-Context-Face.ensures.earlier in let low = early 0 0 (omega arith) in omega (arith, c.requires.next, low)

pub bounds-places-face : goal.bounds-places-face
bounds-places-face c = let early = rw c.in-Context-Face.field-0-is at c.in-Context-Face.ensures.earlier in let low = early 1 0 (omega arith) in omega (arith, c.requires.next, low)

pub ctx_face-requires : goal.ctx_face-requires
ctx_face-requires c =
    let may = c.requires.may.1 in
    let g = c.requires.may.0 in
    let e = both-copied g c.args.lines.now c.args.places.now may.placed c.args.row c.requires.next with_a_face c.in-Context-Face.ctx.0 c.in-Context-Face.face.0 (row_over c.args.book.now c.args.row g) may.there (rw c.in-Context-Face.field-0-is at (c.in-Context-Face.ensures.over g)) (rw c.in-Context-Face.field-0-is at c.in-Context-Face.ensures.earlier) in subst (λ (o : Option Thing). IsSome o) (sym e) may.there

pub returns-in_ok-ctx_face-in-Context-Face-clause-meaning : goal.returns-in_ok-ctx_face-in-Context-Face-clause-meaning
returns-in_ok-ctx_face-in-Context-Face-clause-meaning c = λ f h.
    c.in_ok-ctx_face-in-Context-Face.ensures.meaning ∙ both-copied f c.args.lines.now c.args.places.now h.placed c.args.row c.requires.next with_a_face c.in-Context-Face.ctx.0 c.in-Context-Face.face.0 (row_over c.args.book.now c.args.row f) h.there (rw c.in-Context-Face.field-0-is at (c.in-Context-Face.ensures.over f)) (rw c.in-Context-Face.field-0-is at c.in-Context-Face.ensures.earlier)

-- an operator

pub placed-requires-clause-few : goal.placed-requires-clause-few
placed-requires-clause-few c =
    let may = c.requires.may.1 in
    let g = c.requires.may.0 in
    let f = c.requires.may.0 in
    let is = rw c.in-Term-Make.field-0-is at (c.in-Term-Make.ensures.over g) in
    let some = subst (λ (o : Option Thing). IsSome o) is may.there in
    omega (arith, made-count f c.in-Term-Make.op c.in-Term-Make.kids.now some, kids_of-most c.in-Term-Make.op)

pub placed-requires-clause-there : goal.placed-requires-clause-there
placed-requires-clause-there c =
    let early = rw c.in-Term-Make.field-0-is at c.in-Term-Make.ensures.earlier in
    subst (λ (n : ℕ). All (λ k. k < n) c.in-Term-Make.kids.now) c.requires.next early

pub make-requires : goal.make-requires
make-requires c =
    let may = c.requires.may.1 in
    let g = c.requires.may.0 in
    let op = c.in-Term-Make.op in
    let kids = c.in-Term-Make.kids.now in
    let e = kids-copied g c.args.lines.now c.args.places.now may.placed c.args.row c.requires.next op kids (row_over c.args.book.now c.args.row g) may.there (rw c.in-Term-Make.field-0-is at (c.in-Term-Make.ensures.over g)) (rw c.in-Term-Make.field-0-is at c.in-Term-Make.ensures.earlier) in
    let some = subst (λ (o : Option Thing). IsSome o) (sym e) may.there in
    subst (λ (ks : List ℕ). IsSome (option_and_then (made op) (meanings (lines_mean c.args.lines.now) ks))) (sym (c.as_slice.ensures.value ∙ c.placed.ensures)) some

pub returns-in_ok-make-in-Term-Make-clause-meaning : goal.returns-in_ok-make-in-Term-Make-clause-meaning
returns-in_ok-make-in-Term-Make-clause-meaning c = λ f h.
    let op = c.in-Term-Make.op in
    let kids = c.in-Term-Make.kids.now in
    c.in_ok-make-in-Term-Make.ensures.meaning
    ∙ ap (λ (ks : List ℕ). option_and_then (made op) (meanings (lines_mean c.args.lines.now) ks)) (c.as_slice.ensures.value ∙ c.placed.ensures)
    ∙ kids-copied f c.args.lines.now c.args.places.now h.placed c.args.row c.requires.next op kids (row_over c.args.book.now c.args.row f) h.there (rw c.in-Term-Make.field-0-is at (c.in-Term-Make.ensures.over f)) (rw c.in-Term-Make.field-0-is at c.in-Term-Make.ensures.earlier)

-- substitutions

pub returns-in_ok-longer_shift-in-Subst-Shift-clause-meaning : goal.returns-in_ok-longer_shift-in-Subst-Shift-clause-meaning
returns-in_ok-longer_shift-in-Subst-Shift-clause-meaning c = λ f h.
    let by = c.in-Subst-Shift.by in
    let is = rw c.in-Subst-Shift.field-0-is at (c.in-Subst-Shift.ensures.over f) in
    let same : by + 0 ≡ by = omega arith in
    c.in_ok-longer_shift-in-Subst-Shift.ensures.meaning ∙ ap (λ n. Some (ASubst (shift_by n))) same ∙ sym is

pub then-requires-clause-first : goal.then-requires-clause-first
then-requires-clause-first c =
    let may = c.requires.may.1 in
    let g = c.requires.may.0 in
    let e = both-copied g c.args.lines.now c.args.places.now may.placed c.args.row c.requires.next then_of c.in-Subst-Then.first.0 c.in-Subst-Then.second.0 (row_over c.args.book.now c.args.row g) may.there (rw c.in-Subst-Then.field-0-is at (c.in-Subst-Then.ensures.over g)) (rw c.in-Subst-Then.field-0-is at c.in-Subst-Then.ensures.earlier) in
    let some = subst (λ (o : Option Thing). IsSome o) (sym e) may.there in
    first-fits c.args.lines.now (subst IsFile c.lines.view_is c.lines.invariant.1) _ _ some

pub then-requires-clause-second : goal.then-requires-clause-second
then-requires-clause-second c =
    let may = c.requires.may.1 in
    let g = c.requires.may.0 in
    let e = both-copied g c.args.lines.now c.args.places.now may.placed c.args.row c.requires.next then_of c.in-Subst-Then.first.0 c.in-Subst-Then.second.0 (row_over c.args.book.now c.args.row g) may.there (rw c.in-Subst-Then.field-0-is at (c.in-Subst-Then.ensures.over g)) (rw c.in-Subst-Then.field-0-is at c.in-Subst-Then.ensures.earlier) in
    let some = subst (λ (o : Option Thing). IsSome o) (sym e) may.there in
    second-fits c.args.lines.now (subst IsFile c.lines.view_is c.lines.invariant.1) _ _ some

pub offset_bounds-places-sub : goal.offset_bounds-places-sub
offset_bounds-places-sub c = let early = rw c.in-Term-Instance.field-0-is at c.in-Term-Instance.ensures.earlier in let low = early 1 0 (omega arith) in omega (arith, c.requires.next, low)

pub offset_bounds-places-term-in-Subst-Push : goal.offset_bounds-places-term-in-Subst-Push
offset_bounds-places-term-in-Subst-Push c = let early = rw c.in-Subst-Push.field-0-is at c.in-Subst-Push.ensures.earlier in let low = early 1 0 (omega arith) in omega (arith, c.requires.next, low)

pub offset_bounds-places-second : goal.offset_bounds-places-second
offset_bounds-places-second c = let early = rw c.in-Subst-Then.field-0-is at c.in-Subst-Then.ensures.earlier in let low = early 1 0 (omega arith) in omega (arith, c.requires.next, low)

pub offset_bounds-places-ty : goal.offset_bounds-places-ty
offset_bounds-places-ty c = let early = rw c.in-Context-Var.field-0-is at c.in-Context-Var.ensures.earlier in let low = early 1 0 (omega arith) in omega (arith, c.requires.next, low)

pub offset_bounds-places-face : goal.offset_bounds-places-face
offset_bounds-places-face c = let early = rw c.in-Context-Face.field-0-is at c.in-Context-Face.ensures.earlier in let low = early 1 0 (omega arith) in omega (arith, c.requires.next, low)

-- rows that name none

pub returns-in_ok-var-in-Term-Var-clause-meaning : goal.returns-in_ok-var-in-Term-Var-clause-meaning
returns-in_ok-var-in-Term-Var-clause-meaning c = λ f h.
    c.in_ok-var-in-Term-Var.ensures.meaning ∙ sym (rw c.in-Term-Var.field-0-is at (c.in-Term-Var.ensures.over f))

pub returns-in_ok-ctx_nil-in-Context-Nil-clause-meaning : goal.returns-in_ok-ctx_nil-in-Context-Nil-clause-meaning
returns-in_ok-ctx_nil-in-Context-Nil-clause-meaning c = λ f h.
    c.in_ok-ctx_nil-in-Context-Nil.ensures.meaning ∙ sym (rw c.in-Context-Nil.field-0-is at (c.in-Context-Nil.ensures.over f))
