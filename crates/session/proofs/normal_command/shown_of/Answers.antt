use Rattle.std.proofs.Common.{◌≡◌, ◌∷◌, [], sym, subst, refl, IsSome, string_bytes}
use Rattle.trees.specs.Judgements.{Nil}
use Rattle.trees.specs.Language.{TmEq}
use Rattle.session.specs.declared.normal_command.Shown.{Shown}
use Rattle.session.specs.Normals.{IsNormalText, IsShown}
use Rattle.session.proofs.NormalLaws.{one_root, shows_text}
use Rattle.session.proofs.normal_command.shown_of.Goals as goal
use Rattle.session.proofs.normal_command.shown_of.Goals.{In-Some}

shows : (c : In-Some) → IsNormalText c.args.book.now c.args.equation.0 c.args.body.0 (string_bytes c.in-Some.text)
shows c = c.in_ok-text.ensures c.in-Some.text c.in-Some.is

pub derivation_of-requires : goal.derivation_of-requires
derivation_of-requires c =
    let t = shows ((goal.at.derivation_of-requires c).In-Some) in
    subst IsSome (sym (one_root c.args.book.now c.args.equation (TmEq Nil t.term t.normal t.type) t.equal)) refl

pub returns : goal.returns
returns c =
    let b = c.args.book.now in
    let t = shows ((goal.at.returns c).In-Some) in
    let derived = c.in_ok-bytes.ensures (TmEq Nil t.term t.normal t.type ∷ []) (one_root b c.args.equation (TmEq Nil t.term t.normal t.type) t.equal) in
    let it : Shown = record { text = c.in-Some.text; bytes = c.in_ok-bytes.bytes } in
    λ s is.
    let same : it ≡ s = cc in
    subst (IsShown b c.args.body.0) same (shows_text b c.args.equation.0 c.args.body.0 it t derived.0 derived.1)
