use Rattle.std.proofs.Common.{◌≡◌, ◌≢◌, Ok, ap, sym, ◌∙◌, arith, rules, length, get_or, true, false, ◌==◌, ◌⊎◌, inl, inr}
use Rattle.layout_lexer.specs.declared.token.Token.{Token}
use Rattle.layout_lexer.specs.declared.fault.LexFault.TheVariants.{Memory}
use Rattle.layout_lexer.specs.Texts.{tokens_of}
use Rattle.layout_lexer.specs.declared.token.Kind.TheVariants.{Open}
use Rattle.command_words.specs.Words.{may_name}
use Rattle.command_words.proofs.NameLaws.{fault_is_none, few_or_many, of_none, and_chain, one_token}
use Rattle.command_words.proofs.names.is_name.Goals as goal
use Rattle.command_words.proofs.names.is_name.Goals.{in_default, in_default-2, then-token-eq0, else-token-eq0, then-may_name, else-may_name}

pub returns-in-Err : goal.returns-in-Err
returns-in-Err c =
    let known : c.in-Err.field-0 ≢ Memory = search rules in
    fault_is_none c.args.word.now c.in-Err.field-0 (ap tokens_of (sym c.as_bytes.ensures.value) ∙ c.in-Err.ensures.err known)

pub returns : goal.returns
returns c =
    let word = c.args.word.now in
    let ts = c.in-Ok.tokens in
    let here : tokens_of word ≡ Ok ts = ap tokens_of (sym c.as_bytes.ensures.value) ∙ c.in-Ok.ensures.ok in
    let long = ap length c.as_slice.ensures in
    elim c.if-as_slice-lt1.branch [
      | in_default w ↦ of_none word c.if-as_slice-lt1.result w.result-is (few_or_many word ts here (λ one. omega (arith, w.in_default.len_below, long, one)))
      | in_default-2 w ↦ of_none word c.if-as_slice-lt1.result w.result-is (few_or_many word ts here (λ one. omega (arith, w.in_default.len_at_least, long, one)))
    ]

pub returns-in-len1 : goal.returns-in-len1
returns-in-len1 c =
    let word = c.args.word.now in
    let d : Token = record { kind = Open; start = 0; end = 0; column = 0 } in
    let t = get_or c.as_slice.result.now 0 d in
    let here : tokens_of word ≡ Ok c.in-Ok.tokens = ap tokens_of (sym c.as_bytes.ensures.value) ∙ c.in-Ok.ensures.ok in
    let named = one_token word c.in-Ok.tokens c.as_slice.result.now d here c.as_slice.ensures c.in-len1.len_at_least c.in-len1.len_below in
    let is : c.may_name.result ≡ may_name t.kind = c.may_name.ensures in
    let first : ((may_name t.kind ≡ true) × (c.if-may_name.value ≡ (t.start == 0))) ⊎ ((may_name t.kind ≡ false) × (c.if-may_name.value ≡ may_name t.kind)) =
    elim c.if-may_name.branch [
      | then-may_name v ↦ inl (sym is ∙ v.if-may_name.true, v.value-is)
      | else-may_name v ↦ inr (sym is ∙ v.if-may_name.false, v.value-is ∙ is)
    ] in
    let second : ((c.if-may_name.value ≡ true) × (c.if-token-eq0.result ≡ (t.end == length word))) ⊎ ((c.if-may_name.value ≡ false) × (c.if-token-eq0.result ≡ c.if-may_name.value)) =
    elim c.if-token-eq0.branch [
      | then-token-eq0 w ↦ inl (w.if-token-eq0.true, w.result-is)
      | else-token-eq0 w ↦ inr (w.if-token-eq0.false, w.result-is)
    ] in
    and_chain (may_name t.kind) (t.start == 0) (t.end == length word) c.if-may_name.value c.if-token-eq0.result first second ∙ sym named
