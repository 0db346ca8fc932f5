-- Words that are names.
use Rattle.std.proofs.Common.{◌≡◌, ◌<◌, ◌≤◌, ◌⊎◌, inl, inr, ◌==◌, ◌&&◌, ℕ, Bool, true, false, List, [], ◌∷◌, length, get_or, sym, ◌∙◌, ap, refl, arith, Result, Ok, Err, IfOk}
use Rattle.std.specs.declared.alloc.AllocError.{AllocError}
use Rattle.layout_lexer.specs.declared.token.Token.{Token}
use Rattle.layout_lexer.specs.declared.fault.LexFault.{LexFault}
use Rattle.layout_lexer.specs.Texts.{tokens_of}
use Rattle.command_words.specs.Words.{is_name, is_only, may_name}

unfolding_name : (word : List ℕ) (r : Result (List Token) LexFault) → tokens_of word ≡ r → is_name word ≡ is_only (length word) r
unfolding is_name
unfolding_name word r e = ap (is_only (length word)) e

-- a text with a fault is none
pub fault_is_none : (word : List ℕ) (f : LexFault) → tokens_of word ≡ Err f → false ≡ is_name word
fault_is_none word f e = sym (unfolding_name word (Err f) e)

-- one of no token or several is none
pub few_or_many : (word : List ℕ) (ts : List Token) → tokens_of word ≡ Ok ts → (length ts ≡ 1 → ⊥) → false ≡ is_name word
few_or_many word [] e other = sym (unfolding_name word (Ok []) e)
few_or_many word (t ∷ []) e other = absurd (other refl)
few_or_many word (t ∷ u ∷ ts) e other = sym (unfolding_name word (Ok (t ∷ u ∷ ts)) e)

pub of_none : (word : List ℕ) (result : Result Bool AllocError) → result ≡ Ok false → false ≡ is_name word → IfOk result (λ is. is ≡ is_name word)
of_none word (Ok b) e none = let same : b ≡ false = cc in same ∙ none
of_none word (Err x) e none = cc

-- tests one after another
pub and_chain : (a s e value result : Bool) → ((a ≡ true) × (value ≡ s)) ⊎ ((a ≡ false) × (value ≡ a)) → ((value ≡ true) × (result ≡ e)) ⊎ ((value ≡ false) × (result ≡ value)) → result ≡ (a && s && e)
and_chain true true e value result (inl p) (inl q) = q.1
and_chain true true e value result (inl p) (inr q) = cc
and_chain true false e value result (inl p) (inl q) = cc
and_chain true false e value result (inl p) (inr q) = cc
and_chain true s e value result (inr p) q = cc
and_chain false s e value result (inl p) q = cc
and_chain false s e value result (inr p) (inl q) = cc
and_chain false s e value result (inr p) (inr q) = cc

pub one_token : (word : List ℕ) (ts read : List Token) (d : Token) → tokens_of word ≡ Ok ts → read ≡ ts → 1 ≤ length read → length read < 2 → let t = get_or read 0 d in is_name word ≡ (may_name t.kind && (t.start == 0) && (t.end == length word))
one_token word ts [] d e same l m = absurd (omega arith)
one_token word ts (t ∷ []) d e same l m = unfolding_name word (Ok (t ∷ [])) (e ∙ ap Ok (sym same))
one_token word ts (t ∷ u ∷ read) d e same l m = absurd (omega arith)
