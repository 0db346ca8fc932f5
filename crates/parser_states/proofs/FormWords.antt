-- Tokens with which no form begins.
use Rattle.std.proofs.Common.{◌≡◌, refl}
use Rattle.layout_lexer.specs.declared.token.Kind.{Kind}
use Rattle.layout_lexer.specs.declared.token.Kind.TheVariants as K
use Rattle.productions.specs.Words.{word_of}
use Rattle.parser_states.specs.View.{IsNoForm}

pub no_form : (k : Kind) → (k ≡ K.PathP → ⊥) → (k ≡ K.Comp → ⊥) → (k ≡ K.Fill → ⊥) → (k ≡ K.Transport → ⊥) → (k ≡ K.GlueType → ⊥)
    → (k ≡ K.GlueTerm → ⊥) → (k ≡ K.Unglue → ⊥) → IsNoForm (word_of k)
no_form K.PathP a b c d e f g = absurd (a refl)
no_form K.Comp a b c d e f g = absurd (b refl)
no_form K.Fill a b c d e f g = absurd (c refl)
no_form K.Transport a b c d e f g = absurd (d refl)
no_form K.GlueType a b c d e f g = absurd (e refl)
no_form K.GlueTerm a b c d e f g = absurd (f refl)
no_form K.Unglue a b c d e f g = absurd (g refl)
no_form k a b c d e f g = tt
