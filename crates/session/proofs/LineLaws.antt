-- What a prompt answers to lines.
use Rattle.std.proofs.Common.{◌≡◌, ◌∷◌, ◌++◌, [], ℕ, List, refl, sym, ◌∙◌, ap, subst, Bor, Option, Some, None, Result, Ok, Err, IfOk}
use Rattle.std.specs.declared.alloc.AllocError.{AllocError}
use Rattle.translation.specs.declared.fault.ScopeFault.{ScopeFault}
use Rattle.translation.specs.Translated.{Refuses}
use Rattle.translation.specs.Texts.{reading}
use Rattle.trees.specs.Trees.{Tree}
use Rattle.trees.specs.Judgements.{Judgement, Nil}
use Rattle.trees.specs.Language.{Tm, TmEq}
use Rattle.derivation.specs.Derivations.{Provable}
use Rattle.book.specs.Contents.{Contents}
use Rattle.book.specs.Shown.{book_concludes}
use Rattle.codes.specs.declared.code.Code.{Code}
use Rattle.codes.specs.declared.code.CodeDef.{CodeDef}
use Rattle.codes.specs.Codes.{definitions, meaning}
use Rattle.module_texts.specs.Texts.{Text}
use Rattle.stated_roots.specs.Terms.{TypesClosed}
use Rattle.resolver.specs.Resolved.{IsCode, IsFault, defs_in, words}
use Rattle.dialogue.specs.Dialogues.{AreAmong}
use Rattle.outcomes.specs.declared.outcome.Outcome.{Outcome}
use Rattle.outcomes.specs.Refusals.{told_scope}
use Rattle.session.specs.declared.program.Program.{Program}
use Rattle.session.specs.declared.prompted.Prompt.{Prompt}
use Rattle.session.specs.Loaded.{texts_of}
use Rattle.session.specs.Prompts.{answers_of}
use Rattle.scopes.specs.declared.scope.ScopeName.{ScopeName}
use Rattle.session.specs.Lines.{AnswersLine, IsExpression, IsTerm, NoTerm, ShowsNormal, Tells, TellsTerm, a_term, expression_in, meant, no_term, not_resolved}
use Rattle.session.specs.Normals.{IsNormalText}
use Rattle.session.specs.Places.{names, span_of}
use Rattle.session.specs.Scopes.{numbered_names}
use Rattle.session.proofs.ScopeLaws.{are_top}

same_tree : (s t A B : Tree) (J : Judgement) → J ≡ Tm Nil s A → J ≡ Tm Nil t B → s ≡ t
same_tree s t A B J d e = cc

one_judgement : (o : Option Judgement) (J K : Judgement) → o ≡ Some J → o ≡ Some K → J ≡ K
one_judgement o J K d e = cc

-- the text of a normal form of the term that a node types shows one
pub shows_normal : (b : Contents) (equation node : ℕ) (t : Tree) (text : List ℕ) → ((n : ℕ) (J : Judgement) → book_concludes b n ≡ Some J → Provable J) → TypesClosed b node t → IsNormalText b equation node text → ShowsNormal t text
shows_normal b equation node t text laws typed is =
    let one : Tm Nil is.term is.type ≡ Tm Nil t typed.type = one_judgement (book_concludes b node) (Tm Nil is.term is.type) (Tm Nil t typed.type) is.typed typed.typed in
    let same : is.term ≡ t = same_tree is.term t is.type typed.type (Tm Nil is.term is.type) refl one in
    record {
      type = is.type;
      normal = is.normal;
      is_normal = is.is_normal;
      shown = is.shown;
      typed = subst (λ u. Provable (Tm Nil u is.type)) same (laws node _ is.typed);
      equal = subst (λ u. Provable (TmEq Nil u is.normal is.type)) same (laws equation _ is.equal);
    }

module _ (texts : List Text) (defs : List CodeDef) (bytes : List ℕ) (ns : List ScopeName) (next : ℕ) (are : ns ≡ numbered_names (names texts) defs) where
  -- a code of an expression is that of a term
  pub is_term : (e : _) (c : Code) → IsExpression bytes e → IsCode bytes ns next e c → (t : Tree) × IsTerm texts defs bytes t c
  is_term e c read coded =
      let H = (definitions defs []).value in
      let code = subst (λ ms. IsCode bytes ms next e c) are coded in
      let tree = code.tree H (are_top defs) in
      let holds = code.holds H (are_top defs) in
      ((meaning c H).value, record { expression = e; is_expression = read; fits = holds.fits; spelt = sym tree; coded = refl })

  -- and one that is not resolved is told so
  pub is_refused : (e : _) (fault : ScopeFault) (told : Outcome) → IsExpression bytes e → IsFault bytes ns e fault → told_scope fault None ≡ Some told → NoTerm texts defs bytes told
  is_refused e fault told read refuses is =
      let H = (definitions defs []).value in
      not_resolved e read fault (subst (λ ms. Refuses fault ((reading bytes e).term (words H ms)).refusal) are (refuses H (are_top defs))) is

-- what is told of a term is told of its line
pub tells_term : (texts : List Text) (defs : List CodeDef) (turns : ℕ) (line bytes : List ℕ) (t : Tree) (c : Code) (r : Result Outcome AllocError) → expression_in line ≡ Some bytes → IsTerm texts defs bytes t c
    → IfOk r (TellsTerm turns (span_of c).start t) → IfOk r (Tells texts defs turns line)
tells_term texts defs turns line bytes t c (Ok told) e is tells = a_term bytes e t c is tells
tells_term texts defs turns line bytes t c (Err m) e is tells = tt

-- a line that is no term
pub tells_none : (texts : List Text) (defs : List CodeDef) (turns : ℕ) (line bytes : List ℕ) (told : Outcome) → expression_in line ≡ Some bytes → NoTerm texts defs bytes told → Tells texts defs turns line told
tells_none texts defs turns line bytes told e is = no_term bytes e is

-- the same lines have the same answers where the program and the budget are the same
pub same_answers : (p q : Prompt) → q.program ≡ p.program → q.turns ≡ p.turns → AreAmong (answers_of p) (answers_of q)
same_answers p q programs turns line text answers =
    let there : AnswersLine (texts_of p.program.now) (defs_in p.program.now.codes) q.turns line text = subst (λ (b : Bor Program). AnswersLine (texts_of b.now) (defs_in b.now.codes) q.turns line text) programs answers in
    subst (λ n. AnswersLine (texts_of p.program.now) (defs_in p.program.now.codes) n line text) turns there
