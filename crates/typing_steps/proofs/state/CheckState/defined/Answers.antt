use Rattle.std.proofs.Common.{◌-◌, ap, sym, ◌∙◌, subst, refl}
use Rattle.std.specs.Option.{option_map}
use Rattle.trees.specs.Trees.{apply, shift_by}
use Rattle.trees.specs.Language.{Ty}
use Rattle.codes.specs.Codes.{body_of}
use Rattle.direct.specs.Known.{scope_of}
use Rattle.typed_nodes.specs.declared.types.Typed.{Typed}
use Rattle.typed_nodes.specs.Typed.{IsTyped}
use Rattle.typed_nodes.proofs.GrowthLaws.{says_later}
use Rattle.typed_contexts.specs.Contexts.{depth_of, at_depth}
use Rattle.typed_contexts.proofs.GrowthLaws.{further, place_later}
use Rattle.typing_tasks.specs.States.{place, inferring}
use Rattle.typing_steps.proofs.GrowthLaws.{state_later}
use Rattle.typing_steps.proofs.KnownLaws.{found, not_found}
use Rattle.typing_steps.proofs.state.CheckState.defined.Goals as goal

pub returns-in_default-clause-infers : goal.returns-in_default-clause-infers
returns-in_default-clause-infers c = λ S s.
    let n = c.args.number in
    ap (option_map (λ A. inferring (body_of (scope_of S.known) n) A S)) (not_found c.args.book.now c.args.self.now.scope.items.items S.known n s.scope (sym c.find.ensures ∙ c.in_default.is))

pub term_from-requires : goal.term_from-requires
term_from-requires c =
    let (S, s) = c.requires in
    let f = found c.args.book.now c.args.self.now.scope.items.items S.known c.args.number c.in-Some.def s.scope (sym c.find.ensures ∙ c.in-Some.is) in
    (place S, f.body, f.type, s.at, f.within, f.root.1)

pub weakening-requires : goal.weakening-requires
weakening-requires c =
    let (S, s) = c.requires in
    let f = found c.args.book.now c.args.self.now.scope.items.items S.known c.args.number c.in-Some.def s.scope (sym c.find.ensures ∙ c.in-Some.is) in
    (place S, place_later c.args.book.now c.term_from.new.book c.args.self.now.places (place S) c.in_ok-term.ensures.extends s.at, f.within)

pub returns-in_err-sub-clause-extends : goal.returns-in_err-sub-clause-extends
returns-in_err-sub-clause-extends c = further c.in_ok-term.ensures.extends c.in_err-sub.ensures.extends

pub returns-in_err-inferred-clause-extends : goal.returns-in_err-inferred-clause-extends
returns-in_err-inferred-clause-extends c = further c.in_ok-term.ensures.extends c.in_ok-sub.ensures.extends

pub returns-clause-extends : goal.returns-clause-extends
returns-clause-extends c = further c.in_ok-term.ensures.extends c.in_ok-sub.ensures.extends

pub returns-clause-infers : goal.returns-clause-infers
returns-clause-infers c = λ S s.
    let b = c.args.book.now in
    let made = c.weakening.new.book in
    let n = c.args.number in
    let def = c.in-Some.def in
    let f = found b c.args.self.now.scope.items.items S.known n def s.scope (sym c.find.ensures ∙ c.in-Some.is) in
    let H = place S in
    let k = depth_of H - def.depth in
    let grows = further c.in_ok-term.ensures.extends c.in_ok-sub.ensures.extends in
    let term_says = c.in_ok-term.ensures.typed H f.body f.type s.at f.root.1 in
    let head : Typed = record { term = c.in_ok-term.term; ty = record { ty = def.root.ty; sub = c.in_ok-sub.sub } } in
    let typed : IsTyped made head H (apply f.body (shift_by k)) (apply f.type (shift_by k)) = record {
      term_is = c.in_ok-sub.ensures.extends.conclusions c.in_ok-term.term.0 _ term_says;
      type_at = record {
        home = at_depth def.depth H;
        tree = f.type;
        sub = shift_by k;
        type_is = says_later b made def.root.ty (Ty (at_depth def.depth H) f.type) grows f.root.0;
        sub_is = c.in_ok-sub.ensures.weakens H (place_later b c.term_from.new.book c.args.self.now.places H c.in_ok-term.ensures.extends s.at);
        is = refl;
      };
    } in
    let here : IsTyped made head H (body_of (scope_of S.known) n) (apply f.type (shift_by k)) = subst (λ t. IsTyped made head H t (apply f.type (shift_by k))) (sym f.body_here) typed in (
      inferring (body_of (scope_of S.known) n) (apply f.type (shift_by k)) S,
      c.in_ok-inferred.ensures made S (body_of (scope_of S.known) n) (apply f.type (shift_by k)) (state_later grows c.args.self.now S s) here,
      ap (option_map (λ A. inferring (body_of (scope_of S.known) n) A S)) f.type_here,
    )
