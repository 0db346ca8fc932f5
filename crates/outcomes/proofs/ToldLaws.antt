-- Outcomes that are told by one text.
use Rattle.std.proofs.Common.{◌≡◌, ◌≢◌, ℕ, ◌++◌, refl, sym, ◌∙◌, ap, subst, Option, Some, None, codes}
use Rattle.std.specs.Prelude.{string_bytes, String}
use Rattle.std.specs.declared.alloc.Global.{Global}
use Rattle.layout_lexer.specs.declared.fault.LexFault.{LexFault}
use Rattle.layout_lexer.specs.declared.fault.LexFault.TheVariants as lex
use Rattle.grammar.specs.declared.reading.ReadFault.{ReadFault}
use Rattle.grammar.specs.declared.reading.ReadFault.TheVariants as read
use Rattle.translation.specs.declared.fault.ScopeFault.{ScopeFault}
use Rattle.translation.specs.declared.fault.ScopeFault.TheVariants as scope
use Rattle.loading.specs.declared.text.LoadFault.{LoadFault}
use Rattle.loading.specs.declared.text.LoadFault.TheVariants as load
use Rattle.loading.specs.Same.{SameFault}
use Rattle.outcomes.specs.declared.refusal.Cause.{Cause}
use Rattle.outcomes.specs.declared.refusal.Cause.TheVariants as cause
use Rattle.outcomes.specs.declared.outcome.Outcome.{Outcome}
use Rattle.outcomes.specs.declared.outcome.Outcome.TheVariants as outcome
use Rattle.outcomes.specs.Refusals.{cause_name, place_text, refusal, told_lex, told_read, told_load, told_scope}
use Rattle.outcomes.specs.Outcomes.{plain_text, status_of}

-- they are told by one text and end with one status
abbrev pub SameAnswer : Outcome → Outcome → Type 0
SameAnswer one other = (plain_text one ≡ plain_text other) × (status_of one ≡ status_of other)

pub same_answer : (one other : Outcome) → one ≡ other → SameAnswer one other
same_answer one other e = (ap plain_text e, ap status_of e)

pub same_missing : (p q : String Global) → string_bytes p ≡ string_bytes q → SameAnswer (outcome.MissingFile p) (outcome.MissingFile q)
same_missing p q e = (ap (λ x. codes "no: MissingFile in " ++ (x ++ codes "\n")) e, refl)

-- how faults are told

pub same_refusal : (why : Cause) (at : Option ℕ) (p q : String Global) → string_bytes p ≡ string_bytes q → SameAnswer (refusal why at (Some p)) (refusal why at (Some q))
same_refusal why at p q e =
    (ap (λ x. codes "no: " ++ (cause_name why ++ (place_text at ++ (codes " in " ++ (x ++ codes "\n"))))) e, refl)

told_both : (one other a b : Outcome) → Some a ≡ Some one → Some b ≡ Some other → SameAnswer a b → SameAnswer one other
told_both one other a b e f s =
    let g : a ≡ one = cc in
    let h : b ≡ other = cc in
    (sym (ap plain_text g) ∙ s.0 ∙ ap plain_text h, sym (ap status_of g) ∙ s.1 ∙ ap status_of h)

told_refusal : (why : Cause) (at : Option ℕ) (p q : String Global) (one other : Outcome) → string_bytes p ≡ string_bytes q → Some (refusal why at (Some p)) ≡ Some one → Some (refusal why at (Some q)) ≡ Some other → SameAnswer one other
told_refusal why at p q one other e a b = told_both one other (refusal why at (Some p)) (refusal why at (Some q)) a b (same_refusal why at p q e)

lex_told : (f : LexFault) (p q : String Global) (one other : Outcome) → string_bytes p ≡ string_bytes q → told_lex f (Some p) ≡ Some one → told_lex f (Some q) ≡ Some other → SameAnswer one other
lex_told (lex.NotUtf8 k) p q one other e a b = told_refusal cause.NotUtf8 (Some k) p q one other e a b
lex_told (lex.BadByte k) p q one other e a b = told_refusal cause.BadByte (Some k) p q one other e a b
lex_told (lex.OpenComment k) p q one other e a b = told_refusal cause.OpenComment (Some k) p q one other e a b
lex_told lex.TooLong p q one other e a b = told_refusal cause.TooLong None p q one other e a b
lex_told lex.Memory p q one other e a b = cc

read_told : (f : ReadFault) (p q : String Global) (one other : Outcome) → string_bytes p ≡ string_bytes q → told_read f (Some p) ≡ Some one → told_read f (Some q) ≡ Some other → SameAnswer one other
read_told (read.RefusedForm k) p q one other e a b = told_refusal cause.RefusedForm (Some k) p q one other e a b
read_told (read.Unexpected k) p q one other e a b = told_refusal cause.Unexpected (Some k) p q one other e a b
read_told (read.TooDeep k) p q one other e a b = told_refusal cause.TooDeep (Some k) p q one other e a b
read_told read.Memory p q one other e a b = cc

pub scope_told : (f : ScopeFault) (p q : String Global) (one other : Outcome) → string_bytes p ≡ string_bytes q → told_scope f (Some p) ≡ Some one → told_scope f (Some q) ≡ Some other → SameAnswer one other
scope_told (scope.Unbound k) p q one other e a b = told_refusal cause.Unbound (Some k) p q one other e a b
scope_told (scope.Twice k) p q one other e a b = told_refusal cause.Twice (Some k) p q one other e a b
scope_told (scope.NameKind k) p q one other e a b = told_refusal cause.NameKind (Some k) p q one other e a b
scope_told (scope.GlueSide k) p q one other e a b = told_refusal cause.GlueSide (Some k) p q one other e a b
scope_told scope.Memory p q one other e a b = cc

pub load_told : (f g : LoadFault) (one other : Outcome) → SameFault f g → one ≢ outcome.ReadFault → told_load f ≡ Some one → told_load g ≡ Some other → SameAnswer one other
load_told (load.Missing p) (load.Missing q) one other s n a b = told_both one other (outcome.MissingFile p) (outcome.MissingFile q) a b (same_missing p q s)
load_told (load.NoTokens f p) (load.NoTokens g q) one other s n a b = lex_told g p q one other s.1 (subst (λ h. told_lex h (Some p) ≡ Some one) s.0 a) b
load_told (load.NoModule f p) (load.NoModule g q) one other s n a b = read_told g p q one other s.1 (subst (λ h. told_read h (Some p) ≡ Some one) s.0 a) b
load_told (load.Cycle p) (load.Cycle q) one other s n a b = told_refusal cause.ImportCycle None p q one other s a b
load_told (load.TooMany p) (load.TooMany q) one other s n a b = told_refusal cause.TooMany None p q one other s a b
load_told load.Unreadable g one other s n a b = absurd (n (let e : outcome.ReadFault ≡ one = cc in sym e))
load_told load.Memory g one other s n a b = cc
load_told (load.Missing p) (load.NoTokens g q) one other s n a b = absurd s
load_told (load.Missing p) (load.NoModule g q) one other s n a b = absurd s
load_told (load.Missing p) (load.Cycle q) one other s n a b = absurd s
load_told (load.Missing p) (load.TooMany q) one other s n a b = absurd s
load_told (load.Missing p) load.Unreadable one other s n a b = absurd s
load_told (load.Missing p) load.Memory one other s n a b = absurd s
load_told (load.NoTokens f p) (load.Missing q) one other s n a b = absurd s
load_told (load.NoTokens f p) (load.NoModule g q) one other s n a b = absurd s
load_told (load.NoTokens f p) (load.Cycle q) one other s n a b = absurd s
load_told (load.NoTokens f p) (load.TooMany q) one other s n a b = absurd s
load_told (load.NoTokens f p) load.Unreadable one other s n a b = absurd s
load_told (load.NoTokens f p) load.Memory one other s n a b = absurd s
load_told (load.NoModule f p) (load.Missing q) one other s n a b = absurd s
load_told (load.NoModule f p) (load.NoTokens g q) one other s n a b = absurd s
load_told (load.NoModule f p) (load.Cycle q) one other s n a b = absurd s
load_told (load.NoModule f p) (load.TooMany q) one other s n a b = absurd s
load_told (load.NoModule f p) load.Unreadable one other s n a b = absurd s
load_told (load.NoModule f p) load.Memory one other s n a b = absurd s
load_told (load.Cycle p) (load.Missing q) one other s n a b = absurd s
load_told (load.Cycle p) (load.NoTokens g q) one other s n a b = absurd s
load_told (load.Cycle p) (load.NoModule g q) one other s n a b = absurd s
load_told (load.Cycle p) (load.TooMany q) one other s n a b = absurd s
load_told (load.Cycle p) load.Unreadable one other s n a b = absurd s
load_told (load.Cycle p) load.Memory one other s n a b = absurd s
load_told (load.TooMany p) (load.Missing q) one other s n a b = absurd s
load_told (load.TooMany p) (load.NoTokens g q) one other s n a b = absurd s
load_told (load.TooMany p) (load.NoModule g q) one other s n a b = absurd s
load_told (load.TooMany p) (load.Cycle q) one other s n a b = absurd s
load_told (load.TooMany p) load.Unreadable one other s n a b = absurd s
load_told (load.TooMany p) load.Memory one other s n a b = absurd s
