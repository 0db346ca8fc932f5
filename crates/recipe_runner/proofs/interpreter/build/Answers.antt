use Rattle.std.proofs.Common.{◌∙◌}
use Rattle.recipe_runner.proofs.BuildLaws.{instance-there, push-there, then-there, variable-there, face-there, name-there, some-is, builds-as}
use Rattle.recipe_runner.proofs.interpreter.build.Goals as goal

pub bounds-made-tree : goal.bounds-made-tree
bounds-made-tree c = (instance-there c.args.book.now c.args.made.now c.in-Instance.tree c.in-Instance.sub c.requires.0 (builds-as c.args.book.now c.args.made.now c.args.row.now _ c.requires.0 c.in-Instance.is c.requires.1)).first_in

pub bounds-made-sub : goal.bounds-made-sub
bounds-made-sub c = (instance-there c.args.book.now c.args.made.now c.in-Instance.tree c.in-Instance.sub c.requires.0 (builds-as c.args.book.now c.args.made.now c.args.row.now _ c.requires.0 c.in-Instance.is c.requires.1)).second_in

pub instance-requires : goal.instance-requires
instance-requires c = some-is _ c.requires.0 (instance-there c.args.book.now c.args.made.now c.in-Instance.tree c.in-Instance.sub c.requires.0 (builds-as c.args.book.now c.args.made.now c.args.row.now _ c.requires.0 c.in-Instance.is c.requires.1)).gives

pub returns-in_ok-instance-in-Instance-clause-meaning : goal.returns-in_ok-instance-in-Instance-clause-meaning
returns-in_ok-instance-in-Instance-clause-meaning c = λ x h.
    c.in_ok-instance-in-Instance.ensures.meaning ∙ (instance-there c.args.book.now c.args.made.now c.in-Instance.tree c.in-Instance.sub x (builds-as c.args.book.now c.args.made.now c.args.row.now _ x c.in-Instance.is h)).gives

pub bounds-made-sub-in-Push : goal.bounds-made-sub-in-Push
bounds-made-sub-in-Push c = (push-there c.args.book.now c.args.made.now c.in-Push.sub c.in-Push.tree c.requires.0 (builds-as c.args.book.now c.args.made.now c.args.row.now _ c.requires.0 c.in-Push.is c.requires.1)).first_in

pub bounds-made-tree-in-Push : goal.bounds-made-tree-in-Push
bounds-made-tree-in-Push c = (push-there c.args.book.now c.args.made.now c.in-Push.sub c.in-Push.tree c.requires.0 (builds-as c.args.book.now c.args.made.now c.args.row.now _ c.requires.0 c.in-Push.is c.requires.1)).second_in

pub push-requires : goal.push-requires
push-requires c = some-is _ c.requires.0 (push-there c.args.book.now c.args.made.now c.in-Push.sub c.in-Push.tree c.requires.0 (builds-as c.args.book.now c.args.made.now c.args.row.now _ c.requires.0 c.in-Push.is c.requires.1)).gives

pub returns-in_ok-push-in-Push-clause-meaning : goal.returns-in_ok-push-in-Push-clause-meaning
returns-in_ok-push-in-Push-clause-meaning c = λ x h.
    c.in_ok-push-in-Push.ensures.meaning ∙ (push-there c.args.book.now c.args.made.now c.in-Push.sub c.in-Push.tree x (builds-as c.args.book.now c.args.made.now c.args.row.now _ x c.in-Push.is h)).gives

pub bounds-made-ctx : goal.bounds-made-ctx
bounds-made-ctx c = (variable-there c.args.book.now c.args.made.now c.in-WithVar.ctx c.in-WithVar.ty c.requires.0 (builds-as c.args.book.now c.args.made.now c.args.row.now _ c.requires.0 c.in-WithVar.is c.requires.1)).first_in

pub bounds-made-ty : goal.bounds-made-ty
bounds-made-ty c = (variable-there c.args.book.now c.args.made.now c.in-WithVar.ctx c.in-WithVar.ty c.requires.0 (builds-as c.args.book.now c.args.made.now c.args.row.now _ c.requires.0 c.in-WithVar.is c.requires.1)).second_in

pub ctx_var-requires : goal.ctx_var-requires
ctx_var-requires c = some-is _ c.requires.0 (variable-there c.args.book.now c.args.made.now c.in-WithVar.ctx c.in-WithVar.ty c.requires.0 (builds-as c.args.book.now c.args.made.now c.args.row.now _ c.requires.0 c.in-WithVar.is c.requires.1)).gives

pub returns-in_ok-ctx_var-in-WithVar-clause-meaning : goal.returns-in_ok-ctx_var-in-WithVar-clause-meaning
returns-in_ok-ctx_var-in-WithVar-clause-meaning c = λ x h.
    c.in_ok-ctx_var-in-WithVar.ensures.meaning ∙ (variable-there c.args.book.now c.args.made.now c.in-WithVar.ctx c.in-WithVar.ty x (builds-as c.args.book.now c.args.made.now c.args.row.now _ x c.in-WithVar.is h)).gives

pub bounds-made-ctx-in-WithFace : goal.bounds-made-ctx-in-WithFace
bounds-made-ctx-in-WithFace c = (face-there c.args.book.now c.args.made.now c.in-WithFace.ctx c.in-WithFace.face c.requires.0 (builds-as c.args.book.now c.args.made.now c.args.row.now _ c.requires.0 c.in-WithFace.is c.requires.1)).first_in

pub bounds-made-face : goal.bounds-made-face
bounds-made-face c = (face-there c.args.book.now c.args.made.now c.in-WithFace.ctx c.in-WithFace.face c.requires.0 (builds-as c.args.book.now c.args.made.now c.args.row.now _ c.requires.0 c.in-WithFace.is c.requires.1)).second_in

pub ctx_face-requires : goal.ctx_face-requires
ctx_face-requires c = some-is _ c.requires.0 (face-there c.args.book.now c.args.made.now c.in-WithFace.ctx c.in-WithFace.face c.requires.0 (builds-as c.args.book.now c.args.made.now c.args.row.now _ c.requires.0 c.in-WithFace.is c.requires.1)).gives

pub returns-in_ok-ctx_face-in-WithFace-clause-meaning : goal.returns-in_ok-ctx_face-in-WithFace-clause-meaning
returns-in_ok-ctx_face-in-WithFace-clause-meaning c = λ x h.
    c.in_ok-ctx_face-in-WithFace.ensures.meaning ∙ (face-there c.args.book.now c.args.made.now c.in-WithFace.ctx c.in-WithFace.face x (builds-as c.args.book.now c.args.made.now c.args.row.now _ x c.in-WithFace.is h)).gives

pub bounds-made-first : goal.bounds-made-first
bounds-made-first c = (then-there c.args.book.now c.args.made.now c.in-Then.first c.in-Then.second c.requires.0 (builds-as c.args.book.now c.args.made.now c.args.row.now _ c.requires.0 c.in-Then.is c.requires.1)).there.first_in

pub bounds-made-second : goal.bounds-made-second
bounds-made-second c = (then-there c.args.book.now c.args.made.now c.in-Then.first c.in-Then.second c.requires.0 (builds-as c.args.book.now c.args.made.now c.args.row.now _ c.requires.0 c.in-Then.is c.requires.1)).there.second_in

pub then-requires-clause-kinds : goal.then-requires-clause-kinds
then-requires-clause-kinds c = some-is _ c.requires.0 (then-there c.args.book.now c.args.made.now c.in-Then.first c.in-Then.second c.requires.0 (builds-as c.args.book.now c.args.made.now c.args.row.now _ c.requires.0 c.in-Then.is c.requires.1)).there.gives

pub then-requires-clause-first : goal.then-requires-clause-first
then-requires-clause-first c = (then-there c.args.book.now c.args.made.now c.in-Then.first c.in-Then.second c.requires.0 (builds-as c.args.book.now c.args.made.now c.args.row.now _ c.requires.0 c.in-Then.is c.requires.1)).first_shift

pub then-requires-clause-second : goal.then-requires-clause-second
then-requires-clause-second c = (then-there c.args.book.now c.args.made.now c.in-Then.first c.in-Then.second c.requires.0 (builds-as c.args.book.now c.args.made.now c.args.row.now _ c.requires.0 c.in-Then.is c.requires.1)).second_shift

pub returns-in_ok-then-in-Then-clause-meaning : goal.returns-in_ok-then-in-Then-clause-meaning
returns-in_ok-then-in-Then-clause-meaning c = λ x h.
    c.in_ok-then-in-Then.ensures.meaning ∙ (then-there c.args.book.now c.args.made.now c.in-Then.first c.in-Then.second x (builds-as c.args.book.now c.args.made.now c.args.row.now _ x c.in-Then.is h)).there.gives

pub bounds-made-ctx-in-WithName : goal.bounds-made-ctx-in-WithName
bounds-made-ctx-in-WithName c = (name-there c.args.book.now c.args.made.now c.in-WithName.ctx c.requires.0 (builds-as c.args.book.now c.args.made.now c.args.row.now _ c.requires.0 c.in-WithName.is c.requires.1)).within

pub ctx_name-requires : goal.ctx_name-requires
ctx_name-requires c = some-is _ c.requires.0 (name-there c.args.book.now c.args.made.now c.in-WithName.ctx c.requires.0 (builds-as c.args.book.now c.args.made.now c.args.row.now _ c.requires.0 c.in-WithName.is c.requires.1)).gives

pub returns-in_ok-ctx_name-in-WithName-clause-meaning : goal.returns-in_ok-ctx_name-in-WithName-clause-meaning
returns-in_ok-ctx_name-in-WithName-clause-meaning c = λ x h.
    c.in_ok-ctx_name-in-WithName.ensures.meaning ∙ (name-there c.args.book.now c.args.made.now c.in-WithName.ctx x (builds-as c.args.book.now c.args.made.now c.args.row.now _ x c.in-WithName.is h)).gives

pub returns-in-Field-clause-meaning : goal.returns-in-Field-clause-meaning
returns-in-Field-clause-meaning c = λ x h.
    c.field.ensures x (builds-as c.args.book.now c.args.made.now c.args.row.now _ x c.in-Field.is h)

pub returns-in_ok-over_kids-in-Make-clause-meaning : goal.returns-in_ok-over_kids-in-Make-clause-meaning
returns-in_ok-over_kids-in-Make-clause-meaning c = λ x h.
    c.in_ok-over_kids-in-Make.ensures.meaning x (builds-as c.args.book.now c.args.made.now c.args.row.now _ x c.in-Make.is h)
