use Rattle.std.proofs.Common.{◌≡◌, refl, ap, sym, subst, ◌∙◌, ◌+◌, ◌∷◌, drop, map}
use Rattle.module_texts.specs.Texts.{name_at}
use Rattle.loading.proofs.FrameLaws.{next-left}
use Rattle.loading.proofs.begun.Begun.next_import.Goals as goal

pub returns : goal.returns
returns c =
    let text = c.args.self.now.text in
    let name = name_at text.bytes.items in
    let at = c.args.self.now.next in
    let span = c.in-Some.span.now in
    let left = next-left name c.as_slice.result.now at span c.in-Some.ensures.lookup.3.0 c.in-Some.ensures.lookup.1 in
    let here = subst (λ xs. drop at (map name xs) ≡ name span ∷ drop (at + 1) (map name xs)) c.as_slice.ensures left in
    let spelled = c.in_ok-name_at.ensures ∙ ap (λ bytes. name_at bytes span) c.deref.ensures.value in
    (here ∙ ap (λ n. n ∷ drop (at + 1) (map name text.module.imports)) (sym spelled), refl, refl)
