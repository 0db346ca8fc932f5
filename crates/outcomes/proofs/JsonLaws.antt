-- The members of a refusal.
use Rattle.std.proofs.Common.{◌≡◌, ◌∙◌, ℕ, List, Option, Some, None, Bor, ap, codes, refl}
use Rattle.serde_json.specs.Data.{Members, no_members}
use Rattle.answer_json.specs.declared.answers.Answer.TheVariants.{No}
use Rattle.answer_json.specs.Members.{all_of, given, if_given, number_if, text_if}
use Rattle.outcomes.specs.declared.json_answers.ShownTexts.{ShownTexts}
use Rattle.outcomes.specs.declared.refusal.Refusal.{Refusal}
use Rattle.outcomes.specs.Json.{answer, at_member, optional, path_text, refusal_members, text_member, texts_read, value}
use Rattle.outcomes.specs.Refusals.{cause_name}

at_given : (o : Option ℕ) (rest : Members) → if_given (codes "at") (number_if o) rest ≡ at_member o rest
at_given None rest = refl
at_given (Some at) rest = refl

text_given : (name : List ℕ) (o : Option (Bor (List ℕ))) (rest : Members) → if_given name (text_if o) rest ≡ optional name (value o) rest
text_given name None rest = refl
text_given name (Some text) rest = refl

-- the members that are given are those of the refusal
pub refusal_given : (r : Refusal) (t : ShownTexts) (at : Option ℕ) (cause : Bor (List ℕ)) (path : Option (Bor (List ℕ))) → at ≡ r.at → cause.now ≡ cause_name r.cause → value path ≡ path_text r.path
    → given (all_of (record { answer = No; at = at; cause = Some cause; definitions = None; face = t.face; found = t.found; path = path; turns = None; type_text = t.type_text; wanted = t.wanted })) ≡ refusal_members r (texts_read t)
refusal_given r t at cause path at_is cause_is path_is =
    let after_path = if_given (codes "type") (text_if t.type_text) (if_given (codes "wanted") (text_if t.wanted) no_members) in
    let with_path = if_given (codes "path") (text_if path) after_path in
    let after_cause = if_given (codes "face") (text_if t.face) (if_given (codes "found") (text_if t.found) with_path) in
    let wanted = text_given (codes "wanted") t.wanted no_members in
    let type = text_given (codes "type") t.type_text (if_given (codes "wanted") (text_if t.wanted) no_members) ∙ ap (optional (codes "type") (value t.type_text)) wanted in
    let behind = text_given (codes "path") path after_path ∙ ap (λ p. optional (codes "path") p after_path) path_is ∙ ap (optional (codes "path") (path_text r.path)) type in
    let found = text_given (codes "found") t.found with_path ∙ ap (optional (codes "found") (value t.found)) behind in
    let face = text_given (codes "face") t.face (if_given (codes "found") (text_if t.found) with_path) ∙ ap (optional (codes "face") (value t.face)) found in
    let why = ap (λ n. text_member (codes "cause") n after_cause) cause_is ∙ ap (text_member (codes "cause") (cause_name r.cause)) face in
    let place = at_given at (text_member (codes "cause") cause.now after_cause) ∙ ap (λ o. at_member o (text_member (codes "cause") cause.now after_cause)) at_is ∙ ap (at_member r.at) why in
    ap (answer (codes "no")) place
