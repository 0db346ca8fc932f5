-- What answers are in JSON.
use Rattle.std.specs.Prelude.{ℕ, Bool, true, false, List, [], ◌∷◌, ◌++◌, codes, Option, None, Some}
use Rattle.std.specs.Prelude.{String, string_bytes}
use Rattle.std.specs.declared.alloc.Global.{Global}
use denote.Ref.{Bor}
use Rattle.serde_json.specs.Data.{Members, member, no_members, number, object, string, unsigned}
use Rattle.serde_json.specs.Written.{compact_text}
use Rattle.std.specs.Option.{option_map}
use Rattle.evidence.specs.declared.texts.Shown.{Shown}
use Rattle.evidence.specs.declared.texts.Shown.TheVariants as shown
use Rattle.outcomes.specs.declared.outcome.Outcome.{Outcome}
use Rattle.outcomes.specs.declared.outcome.Outcome.TheVariants as outcome
use Rattle.outcomes.specs.declared.outcome.Status.{Status}
use Rattle.outcomes.specs.declared.outcome.Status.TheVariants as status
use Rattle.outcomes.specs.declared.refusal.Refusal.{Refusal}
use Rattle.outcomes.specs.declared.json_answers.ShownTexts.{ShownTexts}
use Rattle.outcomes.specs.Outcomes.{plain_text, status_of}
use Rattle.outcomes.specs.Refusals.{cause_name}

-- a member, and those after it by their names
abbrev pub text_member : List ℕ → List ℕ → Members → Members
text_member name text rest = member name (string text) rest

abbrev pub number_member : List ℕ → ℕ → Members → Members
number_member name n rest = member name (number (unsigned n)) rest

abbrev pub answer : List ℕ → Members → Members
answer = text_member (codes "answer")

abbrev pub at_member : Option ℕ → Members → Members
at_member None rest = rest
at_member (Some at) rest = number_member (codes "at") at rest

-- one that may be given
abbrev pub optional : List ℕ → Option (List ℕ) → Members → Members
optional name None rest = rest
optional name (Some text) rest = text_member name text rest

-- the path of a file, where one is meant
abbrev pub path_text : Option (String Global) → Option (List ℕ)
path_text = option_map string_bytes

-- the texts that a refusal shows
pub record Texts : Type 0 where
  pub face : Option (List ℕ)
  pub found : Option (List ℕ)
  pub type : Option (List ℕ)
  pub wanted : Option (List ℕ)

abbrev pub no_texts : Texts
no_texts = record { face = None; found = None; type = None; wanted = None }

abbrev pub texts_of : Shown → Texts
texts_of shown.Nothing = no_texts
texts_of (shown.Type type) = record no_texts { type = Some (string_bytes type) }
texts_of (shown.Two found wanted) =
    record no_texts { found = Some (string_bytes found); wanted = Some (string_bytes wanted) }
texts_of (shown.OnFace face found wanted) = record no_texts {
  face = Some (string_bytes face);
  found = Some (string_bytes found);
  wanted = Some (string_bytes wanted);
}

abbrev pub refusal_members : Refusal → Texts → Members
refusal_members r texts =
    answer (codes "no") (at_member r.at (text_member (codes "cause") (cause_name r.cause)
    (optional (codes "face") texts.face (optional (codes "found") texts.found
    (optional (codes "path") (path_text r.path)
    (optional (codes "type") texts.type (optional (codes "wanted") texts.wanted no_members)))))))

-- what the code's texts are
abbrev pub value : Option (Bor (List ℕ)) → Option (List ℕ)
value = option_map (λ text. text.now)

abbrev pub texts_read : ShownTexts → Texts
texts_read t = record {
  face = value t.face;
  found = value t.found;
  type = value t.type_text;
  wanted = value t.wanted;
}

abbrev pub word_of : Status → List ℕ
word_of status.Yes = codes "yes"
word_of status.No = codes "no"
word_of status.Spent = codes "spent"
word_of _ = codes "fault"

-- the members of an answer: those that its plain text shows
abbrev pub members_of : Outcome → Members
members_of (outcome.Refused refusal) = refusal_members refusal no_texts
members_of (outcome.Refuted refusal shown) = refusal_members refusal (texts_of shown)
members_of (outcome.MissingFile path) =
    answer (codes "no") (text_member (codes "cause") (codes "MissingFile")
    (text_member (codes "path") (string_bytes path) no_members))
members_of outcome.ReadFault =
    answer (codes "fault") (text_member (codes "cause") (codes "ReadFault") no_members)
members_of outcome.WriteFault =
    answer (codes "fault") (text_member (codes "cause") (codes "WriteFault") no_members)
members_of (outcome.Checked count) =
    answer (codes "yes") (number_member (codes "definitions") count no_members)
members_of (outcome.Spent turns at path) =
    answer (codes "spent") (number_member (codes "at") at
    (optional (codes "path") (path_text path)
    (number_member (codes "turns") turns no_members)))
-- the other answers are of no check
members_of told = answer (word_of (status_of told)) no_members

abbrev pub json_text : Outcome → List ℕ
json_text told = compact_text (object (members_of told)) ++ 10 ∷ []

-- the text of an answer, in JSON if that is asked
abbrev pub text_in : Bool → Outcome → List ℕ
text_in true told = json_text told
text_in false told = plain_text told
