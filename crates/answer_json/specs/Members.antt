-- The object that an answer is in JSON.
use Rattle.std.specs.Prelude.{ℕ, List, [], ◌∷◌, Option, None, Some, codes}
use Rattle.std.specs.Option.{option_map}
use Rattle.serde_json.specs.Data.{Data, Members, number, unsigned, string, object, member, put}
use Rattle.serde_json.specs.Data.{no_members}
use Rattle.answer_json.specs.declared.answers.Answer.{Answer}
use Rattle.answer_json.specs.declared.answers.Answer.TheVariants.{Yes, No, Spent, Fault}
use Rattle.answer_json.specs.declared.answers.AnswerMembers.{AnswerMembers}
use denote.Ref.{Bor}

abbrev pub word_of : Answer → List ℕ
word_of Yes = codes "yes"
word_of No = codes "no"
word_of Spent = codes "spent"
word_of Fault = codes "fault"

-- an answer with no other members
abbrev pub bare : Answer → AnswerMembers
bare answer = record {
  answer = answer;
  at = None;
  cause = None;
  definitions = None;
  face = None;
  found = None;
  path = None;
  turns = None;
  type_text = None;
  wanted = None;
}

abbrev pub number_if : Option ℕ → Option Data
number_if = option_map (λ n. number (unsigned n))

abbrev pub text_if : Option (Bor (List ℕ)) → Option Data
text_if = option_map (λ s. string s.now)

-- a member that may be given
pub record Maybe : Type 0 where
  pub name : List ℕ
  pub value : Option Data

abbrev pub maybe : List ℕ → Option Data → Maybe
maybe name value = record { name = name; value = value }

abbrev pub if_given : List ℕ → Option Data → Members → Members
if_given name None rest = rest
if_given name (Some value) rest = member name value rest

-- those that are given
abbrev pub given : List Maybe → Members
given [] = no_members
given (m ∷ rest) = if_given m.name m.value (given rest)

-- the members, by their names
abbrev pub all_of : AnswerMembers → List Maybe
all_of a = maybe (codes "answer") (Some (string (word_of a.answer)))
    ∷ maybe (codes "at") (number_if a.at)
    ∷ maybe (codes "cause") (text_if a.cause)
    ∷ maybe (codes "definitions") (number_if a.definitions)
    ∷ maybe (codes "face") (text_if a.face)
    ∷ maybe (codes "found") (text_if a.found)
    ∷ maybe (codes "path") (text_if a.path)
    ∷ maybe (codes "turns") (number_if a.turns)
    ∷ maybe (codes "type") (text_if a.type_text)
    ∷ maybe (codes "wanted") (text_if a.wanted) ∷ []

-- the object with exactly the members that are given, in the order of their names
abbrev pub object_of : AnswerMembers → Data
object_of a = object (given (all_of a))

-- the members with one more, if it is given, in its place by the order of names
abbrev pub put_if : List ℕ → Option Data → Members → Members
put_if name None members = members
put_if name (Some value) members = put name value members

-- the members with each of these that is given
abbrev pub put_each : List Maybe → Members → Members
put_each [] members = members
put_each (m ∷ rest) members = put_each rest (put_if m.name m.value members)
