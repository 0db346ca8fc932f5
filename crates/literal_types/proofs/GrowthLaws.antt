-- What was said of a book is said of those that extend it.
use Rattle.std.proofs.Common.{◌≡◌, ℕ, Some, IsTrue, refl, sym, subst}
use Rattle.trees.specs.Things.{ATree}
use Rattle.trees.specs.Trees.{Tree, Subst, apply, then, up}
use Rattle.trees.specs.Judgements.{Context, WithVar, WithName, WithFace}
use Rattle.substitution.proofs.ThenLaws.{apply-then}
use Rattle.trees.specs.Language.{Sb, Ty}
use Rattle.conditions.specs.Sides.{is_face}
use Rattle.book.specs.Contents.{Contents}
use Rattle.book.specs.Shown.{Extends, book_means}
use Rattle.book.specs.declared.kernel.NodeId.{NodeId}
use Rattle.typed_nodes.specs.Typed.{Says}
use Rattle.literal_types.specs.declared.entries.Entry.{Entry}
use Rattle.literal_types.specs.declared.entries.Entry.TheVariants as entry
use Rattle.literal_types.specs.Substitutions.{IsEntry, past_entry}

pub extends_extends : {a b c : Contents} → Extends a b → Extends b c → Extends a c
extends_extends e f = record {
  rows = record { keeps = λ k x is. f.rows.keeps k x (e.rows.keeps k x is) };
  nodes = λ k node is. f.nodes k node (e.nodes k node is);
  conclusions = λ k J is. f.conclusions k J (e.conclusions k J is);
  marks = λ mark is. f.marks mark (e.marks mark is);
}

pub extends_itself : (b : Contents) → Extends b b
extends_itself b = record {
  rows = record { keeps = λ k x is. is };
  nodes = λ k node is. is;
  conclusions = λ k J is. is;
  marks = λ mark is. is;
}

pub entry_grows : {a b : Contents} (x : Entry) (K M : Context) → Extends a b → IsEntry a x K M → IsEntry b x K M
entry_grows (entry.Variable ty) K M e is = (is.0, e.conclusions ty.0 (Ty K is.0) is.1, is.2)
entry_grows entry.Name K M e is = is
entry_grows (entry.Face row) K M e is = (is.0, e.rows.keeps row (ATree is.0) is.1, is.2, is.3)

-- substitutions past an entry

pub past_the_variable : (b new : Contents) (node ty : NodeId) (x : Entry) (K M G : Context) (d : Subst) → x ≡ entry.Variable ty → ((A : Tree) → Says b ty (Ty K A) → Says new node (Sb (WithVar K A) (then d up) G)) → IsEntry b x K M → (e : Subst) × Says new node (Sb M e G) × ((A : Tree) → apply A e ≡ past_entry x (apply A d))
past_the_variable b new node ty x K M G d is said =
    subst (λ y. IsEntry b y K M → (e : Subst) × Says new node (Sb M e G) × ((A : Tree) → apply A e ≡ past_entry y (apply A d))) (sym is)
    (λ (A, says, m). (then d up, subst (λ L. Says new node (Sb L (then d up) G)) (sym m) (said A says), λ T. apply-then T d up))

pub past_the_name : (b new : Contents) (node : NodeId) (x : Entry) (K M G : Context) (d : Subst) → x ≡ entry.Name → Says new node (Sb (WithName K) (then d up) G) → IsEntry b x K M → (e : Subst) × Says new node (Sb M e G) × ((A : Tree) → apply A e ≡ past_entry x (apply A d))
past_the_name b new node x K M G d is said =
    subst (λ y. IsEntry b y K M → (e : Subst) × Says new node (Sb M e G) × ((A : Tree) → apply A e ≡ past_entry y (apply A d))) (sym is)
    (λ m. (then d up, subst (λ L. Says new node (Sb L (then d up) G)) (sym m) said, λ T. apply-then T d up))

pub past_the_face : (b new : Contents) (node : NodeId) (row : ℕ) (x : Entry) (K M G : Context) (d : Subst) → x ≡ entry.Face row → ((p : Tree) → book_means b row ≡ Some (ATree p) → IsTrue (is_face K p) → Says new node (Sb (WithFace K p) d G)) → IsEntry b x K M → (e : Subst) × Says new node (Sb M e G) × ((A : Tree) → apply A e ≡ past_entry x (apply A d))
past_the_face b new node row x K M G d is said =
    subst (λ y. IsEntry b y K M → (e : Subst) × Says new node (Sb M e G) × ((A : Tree) → apply A e ≡ past_entry y (apply A d))) (sym is)
    (λ (p, means, face, m). (d, subst (λ L. Says new node (Sb L d G)) (sym m) (said p means face), λ A. refl))

-- the type of an entry that is a variable
pub variable_entry : (b : Contents) (ty : NodeId) (x : Entry) (K M : Context) → x ≡ entry.Variable ty → IsEntry b x K M → (A : Tree) × Says b ty (Ty K A)
variable_entry b ty x K M is e = let t = subst (λ y. IsEntry b y K M) is e in (t.0, t.1)
