use Rattle.std.proofs.Common.{◌≡◌, ℕ, ◌<◌, List, ◌∷◌, suc, length, drop, slice_index_or, drop-cons, sym, ◌∙◌, ap, arith, true}
use Rattle.layout_lexer.specs.declared.token.Kind.{Kind}
use Rattle.layout_lexer.specs.declared.token.Kind.TheVariants.{Open}
use Rattle.layout_lexer.specs.Words.{spelling, rises}
use Rattle.layout_lexer.specs.Pieces.{spelled_in}
use Rattle.layout_lexer.proofs.WordLaws.{first_longer}
use Rattle.layout_lexer.proofs.words.first_spelled.Goals as goal

pub returns-then-text-word : goal.returns-then-text-word
returns-then-text-word c =
    let kinds = c.args.kinds.now in
    let i = c.loop-kind.kind-index in
    let kind : Kind = slice_index_or kinds i Open in
    let here : drop i kinds ≡ kind ∷ drop (suc i) kinds = drop-cons kinds i Open c.loop-kind-test.true in
    let least = c.loop-kind.invariant.rising.0 in
    let rising : rises least (kind ∷ drop (suc i) kinds) ≡ true = sym (ap (rises least) here) ∙ c.loop-kind.invariant.rising.1 in
    let word : length c.as_bytes-word.result.now ≡ length (spelling kind) = ap (λ (w : List ℕ). length w) (c.as_bytes-word.ensures.value ∙ c.spelling.ensures) in
    let short : length c.args.text.now < length (spelling kind) = omega (arith, c.if-text-word.true, word) in
    sym (c.loop-kind.invariant.same ∙ ap (λ ks. spelled_in ks c.args.text.now) here ∙ first_longer least kind (drop (suc i) kinds) c.args.text.now rising short)
