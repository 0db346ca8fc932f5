-- What a row makes, and how the rows go on.
use Rattle.std.proofs.Common.{◌≡◌, ℕ, suc, ◌+◌, ◌<◌, ◌≤◌, List, [], ◌∷◌, ◌++◌, drop, length, map, get_or, refl, sym, ◌∙◌, ap, subst, arith, Option, Some}
use Rattle.std.specs.Prelude.{slice_index}
use Rattle.std.proofs.lemmas.Option.{slice_get_within}
use Rattle.std.proofs.lemmas.List.{drop_all}
use Rattle.std.proofs.Math.Seq.{drop-cons}
use Rattle.theory.specs.declared.rule.RuleName.{RuleName}
use Rattle.theory.specs.declared.rule.RuleName.TheVariants.{Composition}
use Rattle.theory.specs.declared.rule.CompRule.TheVariants.{CompPi, CompSig, CompPath, CompGlue, CompU}
use Rattle.rules.specs.Schemas.{most_rows}
use Rattle.trees.specs.Judgements.{Judgement}
use Rattle.trees.specs.Things.{Thing, meanings}
use Rattle.trees.proofs.Meanings.{meanings-cons, meanings-at, meanings-length, kept-kept}
use Rattle.book.specs.Contents.{Contents}
use Rattle.book.specs.Shown.{book_means, book_concludes, Extends}
use Rattle.recipes.specs.declared.row.Row.{Row}
use Rattle.recipes.specs.declared.row.Row.TheVariants as row
use Rattle.recipes.specs.Made.{Made, AThing, ANode, node_at, built_by}
use Rattle.recipes.specs.Statements.{Statement}
use Rattle.recipes.specs.Derivations.{ThenTakes, Makes, Derives, MayStandAt, premises_at, conclusions_at}
use Rattle.recipe_runner.specs.Running.{IsNumberOf, AreNumbersOf, Builds, Infers, Supplies, MakesOne, MakesAll, GoesOn, MayRun, most_added, most_made}
use Rattle.recipe_runner.proofs.NumberLaws.{AreThere, nodes-there, numbers-later, numbers-join}

-- a row that makes a thing of what earlier rows made
pub record MakesThing (b : Contents) (made : List ℕ) (r : Row) (m : Made) : Type 0 where
  pub thing : Thing
  pub builds : Builds b made r thing
  pub same : m ≡ AThing thing

thing-of : (b : Contents) (made : List ℕ) (r : Row) (m : Made) (known : List Made) → AreNumbersOf b known made → (x : Thing) × (built_by [] known r ≡ Some x) × ThenTakes known r × (m ∷ [] ≡ AThing x ∷ []) → MakesThing b made r m
thing-of b made r m known numbers h = record {
  thing = h.0;
  builds = record { known = known; numbers = numbers; built = h.1; takes = h.2 };
  same = let e : m ∷ [] ≡ AThing h.0 ∷ [] = h.3 in cc;
}

pub makes-other : (b : Contents) (parts premises made : List ℕ) (r : Row) (m : Made) → ((k : ℕ) → r ≡ row.Premise k → ⊥) → ((k : ℕ) → r ≡ row.Part k → ⊥) → ((name : RuleName) (ps ns : List ℕ) → r ≡ row.Conclude name ps ns → ⊥) → MakesOne b parts premises made r m → MakesThing b made r m
makes-other b parts premises made (row.Premise k) m p q c h = absurd (p k refl)
makes-other b parts premises made (row.Part k) m p q c h = absurd (q k refl)
makes-other b parts premises made (row.Conclude name ps ns) m p q c h = absurd (c name ps ns refl)
makes-other b parts premises made (row.Derive k ps ns) m p q c h = absurd (let e = h.makes.1.is in cc e)
makes-other b parts premises made r m p q c h = thing-of b made r m h.known h.numbers h.makes

pub makes-as : (b : Contents) (parts premises made : List ℕ) (r s : Row) (m : Made) → r ≡ s → MakesOne b parts premises made r m → MakesOne b parts premises made s m
makes-as b parts premises made r s m e h = subst (λ z. MakesOne b parts premises made z m) e h

pub record MakesPart (b : Contents) (parts : List ℕ) (k : ℕ) (m : Made) : Type 0 where
  pub within : k < length parts
  pub is : IsNumberOf b m (slice_index parts k)

pub makes-part : (b : Contents) (parts premises made : List ℕ) (k : ℕ) (m : Made) → MakesOne b parts premises made (row.Part k) m → MakesPart b parts k m
makes-part b parts premises made k m h =
    let w = h.makes in
    let e : m ∷ [] ≡ AThing w.0 ∷ [] = w.3 in
    let same : m ≡ AThing w.0 = cc in
    let lt = slice_get_within h.things k w.0 w.1 in
    let count = meanings-length (book_means b) parts h.things h.parts_are in
    record {
      within = omega arith;
      is = subst (λ n. IsNumberOf b n (slice_index parts k)) (sym same) (meanings-at (book_means b) parts h.things h.parts_are k w.0 w.1);
    }

pub makes-premise : (b : Contents) (parts premises made : List ℕ) (k : ℕ) (m : Made) → MakesOne b parts premises made (row.Premise k) m → MakesPart b premises k m
makes-premise b parts premises made k m h =
    let w = h.makes in
    let e : m ∷ [] ≡ ANode w.0 ∷ [] = w.2 in
    let same : m ≡ ANode w.0 = cc in
    let lt = slice_get_within h.judgements k w.0 w.1 in
    let count = meanings-length (book_concludes b) premises h.judgements h.premises_are in
    record {
      within = omega arith;
      is = subst (λ n. IsNumberOf b n (slice_index premises k)) (sym same) (meanings-at (book_concludes b) premises h.judgements h.premises_are k w.0 w.1);
    }

pub record MakesNode (b : Contents) (made : List ℕ) (name : RuleName) (ps ns : List ℕ) (m : Made) : Type 0 where
  pub judgement : Judgement
  pub infers : Infers b made name ps ns judgement
  pub same : m ≡ ANode judgement

pub makes-node : (b : Contents) (parts premises made : List ℕ) (name : RuleName) (ps ns : List ℕ) (m : Made) → MakesOne b parts premises made (row.Conclude name ps ns) m → MakesNode b made name ps ns m
makes-node b parts premises made name ps ns m h =
    let w = h.makes in
    let e : m ∷ [] ≡ ANode w.0 ∷ [] = w.2 in
    record {
      judgement = w.0;
      infers = record { known = h.known; numbers = h.numbers; concludes = w.1 };
      same = cc;
    }

-- a row that is of no earlier recipe makes one thing or node

pub record IsOne (b : Contents) (parts premises made : List ℕ) (r : Row) (new : List Made) : Type 0 where
  pub one : Made
  pub is : new ≡ one ∷ []
  pub makes : MakesOne b parts premises made r one

one-is : (earlier : List Statement) (b : Contents) (parts premises made : List ℕ) (r : Row) (new : List Made) → (h : MakesAll earlier b parts premises made r new) → (m : Made) → new ≡ m ∷ [] → Makes [] h.things h.judgements h.known r (m ∷ []) → IsOne b parts premises made r new
one-is earlier b parts premises made r new h m is makes = record {
  one = m;
  is = is;
  makes = record {
    things = h.things;
    judgements = h.judgements;
    known = h.known;
    parts_are = h.parts_are;
    premises_are = h.premises_are;
    numbers = h.numbers;
    makes = makes;
  };
}

pub makes-one : (earlier : List Statement) (b : Contents) (parts premises made : List ℕ) (r : Row) (new : List Made) → ((k : ℕ) (ps ns : List ℕ) → r ≡ row.Derive k ps ns → ⊥) → MakesAll earlier b parts premises made r new → IsOne b parts premises made r new
makes-one earlier b parts premises made (row.Derive k ps ns) new other h = absurd (other k ps ns refl)
makes-one earlier b parts premises made (row.Premise k) new other h =
    one-is earlier b parts premises made (row.Premise k) new h (ANode h.makes.0) h.makes.2 (h.makes.0, h.makes.1, refl)
makes-one earlier b parts premises made (row.Conclude name ps ns) new other h =
    one-is earlier b parts premises made (row.Conclude name ps ns) new h (ANode h.makes.0) h.makes.2 (h.makes.0, h.makes.1, refl)
makes-one earlier b parts premises made r new other h =
    one-is earlier b parts premises made r new h (AThing h.makes.0) h.makes.3 (h.makes.0, h.makes.1, h.makes.2, refl)

-- a row of an earlier recipe makes nodes

pub record MakesNodes (earlier : List Statement) (b : Contents) (made : List ℕ) (k : ℕ) (ps ns : List ℕ) (new : List Made) : Type 0 where
  pub gives : List Judgement
  pub supplies : Supplies earlier b made k ps ns gives
  pub same : new ≡ map ANode gives

pub makes-nodes : (earlier : List Statement) (b : Contents) (parts premises made : List ℕ) (k : ℕ) (ps ns : List ℕ) (new : List Made) → MakesAll earlier b parts premises made (row.Derive k ps ns) new → MakesNodes earlier b made k ps ns new
makes-nodes earlier b parts premises made k ps ns new h = record {
  gives = h.makes.0;
  supplies = record { known = h.known; numbers = h.numbers; follows = h.makes.1 };
  same = h.makes.2;
}

pub all-as : (earlier : List Statement) (b : Contents) (parts premises made : List ℕ) (r s : Row) (new : List Made) → r ≡ s → MakesAll earlier b parts premises made r new → MakesAll earlier b parts premises made s new
all-as earlier b parts premises made r s new e h = subst (λ z. MakesAll earlier b parts premises made z new) e h

-- the rows, one after the other

goes-on : {X : Type 0} (f g : ℕ → Option X) → ((k : ℕ) (x : X) → f k ≡ Some x → g k ≡ Some x) → (ks : List ℕ) (xs : List X) → meanings f ks ≡ Some xs → meanings g ks ≡ Some xs
goes-on f g keeps [] xs e = e
goes-on f g keeps (k ∷ ks) xs e =
    let m = meanings-cons f k ks xs e in
    rw (keeps k m.first m.first_is, goes-on f g keeps ks m.rest m.rest_is) (ap Some (sym m.whole))

pub begins : (earlier : List Statement) (b : Contents) (rows : List Row) (outs parts premises : List ℕ) (gives : List Judgement) → (h : MayRun earlier b rows outs parts premises gives) → GoesOn earlier b parts premises [] rows h.runs.whole
begins earlier b rows outs parts premises gives h = record {
  things = h.things;
  judgements = h.judgements;
  known = [];
  parts_are = h.parts_are;
  premises_are = h.premises_are;
  numbers = tt;
  runs = h.runs.runs;
}

pub record Next (earlier : List Statement) (b : Contents) (parts premises made : List ℕ) (r : Row) (rows : List Row) (whole : List Made) : Type 0 where
  pub new : List Made
  pub makes : MakesAll earlier b parts premises made r new
  pub goes : (c : Contents) → Extends b c → (ns : List ℕ) → AreNumbersOf c new ns → GoesOn earlier c parts premises (made ++ ns) rows whole

pub next : (earlier : List Statement) (b : Contents) (parts premises made : List ℕ) (r : Row) (rows : List Row) (whole : List Made) → GoesOn earlier b parts premises made (r ∷ rows) whole → Next earlier b parts premises made r rows whole
next earlier b parts premises made r rows whole h = record {
  new = h.runs.0;
  makes = record {
    things = h.things;
    judgements = h.judgements;
    known = h.known;
    parts_are = h.parts_are;
    premises_are = h.premises_are;
    numbers = h.numbers;
    makes = h.runs.1.0;
  };
  goes = λ c ext ns is. record {
    things = h.things;
    judgements = h.judgements;
    known = h.known ++ h.runs.0;
    parts_are = goes-on (book_means b) (book_means c) ext.rows.keeps parts h.things h.parts_are;
    premises_are = goes-on (book_concludes b) (book_concludes c) ext.conclusions premises h.judgements h.premises_are;
    numbers = numbers-join c h.known made h.runs.0 ns (numbers-later b c ext h.known made h.numbers) is;
    runs = h.runs.1.1;
  };
}

-- the row at a place, and those behind it
pub turn : (earlier : List Statement) (b : Contents) (parts premises made : List ℕ) (rows : List Row) (i : ℕ) (d : Row) (whole : List Made) → i < length rows → GoesOn earlier b parts premises made (drop i rows) whole → Next earlier b parts premises made (get_or rows i d) (drop (i + 1) rows) whole
turn earlier b parts premises made rows i d whole lt h =
    let one_more : suc i ≡ i + 1 = omega arith in
    let cut = drop-cons rows i d lt ∙ ap (λ k. get_or rows i d ∷ drop k rows) one_more in
    next earlier b parts premises made (get_or rows i d) (drop (i + 1) rows) whole (subst (λ z. GoesOn earlier b parts premises made z whole) cut h)

pub none-left : (earlier : List Statement) (b : Contents) (parts premises made : List ℕ) (rows : List Row) (i : ℕ) (whole : List Made) → length rows ≤ i → GoesOn earlier b parts premises made (drop i rows) whole → GoesOn earlier b parts premises made [] whole
none-left earlier b parts premises made rows i whole le h = subst (λ z. GoesOn earlier b parts premises made z whole) (drop_all i rows le) h

pub extends-further : (b c d : Contents) → Extends b c → Extends c d → Extends b d
extends-further b c d f g = record {
  rows = kept-kept (book_means b) (book_means c) (book_means d) f.rows g.rows;
  nodes = λ k node e. g.nodes k node (f.nodes k node e);
  conclusions = λ k J e. g.conclusions k J (f.conclusions k J e);
  marks = λ mark h. g.marks mark (f.marks mark h);
}

most_rows-some : (name : RuleName) → 1 ≤ most_rows name
most_rows-some (Composition CompPi) = omega arith
most_rows-some (Composition CompSig) = omega arith
most_rows-some (Composition CompPath) = omega arith
most_rows-some (Composition CompGlue) = omega arith
most_rows-some (Composition CompU) = omega arith
most_rows-some _ = omega arith

pub most_added-some : (r : Row) → 1 ≤ most_added (λ k. 1) r
most_added-some (row.Conclude name ps ns) = most_rows-some name
most_added-some _ = omega arith

-- a row of no earlier recipe adds as much whatever these add, and makes one thing or node

pub most-same : (most : ℕ → ℕ) (r : Row) → ((k : ℕ) (ps ns : List ℕ) → r ≡ row.Derive k ps ns → ⊥) → most_added (λ k. 1) r ≡ most_added most r
most-same most (row.Derive k ps ns) other = absurd (other k ps ns refl)
most-same most _ other = refl

pub one-made : (r : Row) → 1 ≤ most_made r
one-made (row.Derive k ps ns) = omega arith
one-made _ = omega arith

pub ends : (earlier : List Statement) (b : Contents) (parts premises made : List ℕ) (whole : List Made) → GoesOn earlier b parts premises made [] whole → (outs : List ℕ) (gives : List Judgement) → meanings (node_at whole) outs ≡ Some gives → AreThere (book_concludes b) made outs gives
ends earlier b parts premises made whole h outs gives e =
    nodes-there b whole made outs gives (subst (λ k. AreNumbersOf b k made) h.runs h.numbers) e

-- what is derived may be run
pub may-run : (earlier : List Statement) (b : Contents) (s : Statement) (rows : List Row) (outs parts premises : List ℕ) (things : List Thing) → Derives earlier s rows outs → meanings (book_means b) parts ≡ Some things → MayStandAt s things → meanings (book_concludes b) premises ≡ Some (premises_at s things) → MayRun earlier b rows outs parts premises (conclusions_at s things)
may-run earlier b s rows outs parts premises things d parts_are may premises_are = record {
  things = things;
  judgements = premises_at s things;
  parts_are = parts_are;
  premises_are = premises_are;
  runs = d.derives things may;
}
