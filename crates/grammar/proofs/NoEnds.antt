-- Steps after a part that was put into its place, and the end there.
use Rattle.std.proofs.Common.{ℕ, ◌≡◌, List, None, refl}
use Rattle.productions.specs.Words.{Word}
use Rattle.productions.specs.Machine.{Frame, finish, finish_given, step, step_given}
use Rattle.productions.specs.declared.past.Past.{Past}
use Rattle.parser_states.specs.declared.state.Given.{Given}
use Rattle.parser_states.specs.declared.state.Given.TheVariants as GV
use Rattle.parser_states.specs.declared.state.Heading.{Heading}
use Rattle.parser_states.specs.declared.state.Heading.TheVariants as HD
use Rattle.parser_states.specs.declared.state.Items.{Items}
use Rattle.parser_states.specs.declared.state.Items.TheVariants as IT
use Rattle.parser_states.specs.declared.state.Block.{Block}
use Rattle.parser_states.specs.declared.state.Block.TheVariants as BL
use Rattle.parser_states.specs.declared.state.Names.{Names}
use Rattle.parser_states.specs.declared.state.Names.TheVariants as NM
use Rattle.parser_states.specs.declared.state.System.{System}
use Rattle.parser_states.specs.declared.state.System.TheVariants as SY
use Rattle.parser_states.specs.declared.state.Top.{Top}
use Rattle.parser_states.specs.declared.state.Top.TheVariants as T
use Rattle.parser_states.specs.View.{given_of, heading_of, items_of, block_of, names_of, system_of, top_of}

pub given_step : (g : Given) (p : Past) (F : List Frame) (w : Word) (s e : ℕ) → step (given_of g) p F w s e ≡ step_given (given_of g) p F w s e
given_step (GV.Spined x) p F w s e = refl
given_step (GV.Exp4 slot) p F w s e = refl
given_step (GV.System o) p F w s e = refl

pub given_ends : (g : Given) (p : Past) (F : List Frame) → finish (given_of g) p F ≡ finish_given (given_of g) p F
given_ends (GV.Spined x) p F = refl
given_ends (GV.Exp4 slot) p F = refl
given_ends (GV.System o) p F = refl

-- No text ends in the other states.

heading_ends : (t : Heading) (p : Past) (F : List Frame) → finish (heading_of t) p F ≡ None
heading_ends HD.Nothing p F = refl
heading_ends HD.Word p F = refl
heading_ends (HD.Name n) p F = refl
heading_ends (HD.Where n) p F = refl
heading_ends (HD.Open n) p F = refl

items_end : (t : Items) (p : Past) (F : List Frame) → finish (items_of t) p F ≡ None
items_end (IT.Import n is) p F = refl
items_end (IT.AfterImport n is) p F = refl
items_end (IT.Next n is) p F = refl

block_ends : (t : Block) (p : Past) (F : List Frame) → finish (block_of t) p F ≡ None
block_ends (BL.Word r) p F = refl
block_ends (BL.Open r) p F = refl
block_ends (BL.Next f r ds) p F = refl
block_ends (BL.AfterDef f r ds) p F = refl
block_ends (BL.LetClose r i ds) p F = refl

names_end : (t : Names) (p : Past) (F : List Frame) → finish (names_of t) p F ≡ None
names_end (NM.PathSign r i) p F = refl
names_end (NM.Path r i ns rn) p F = refl
names_end (NM.Backslash r i) p F = refl
names_end (NM.Tele x) p F = refl
names_end (NM.TeleNames x ns rn) p F = refl
names_end (NM.AfterTele x) p F = refl

system_ends : (t : System) (p : Past) (F : List Frame) → finish (system_of t) p F ≡ None
system_ends (SY.Open o) p F = refl
system_ends (SY.Side x) p F = refl
system_ends (SY.Equation x) p F = refl
system_ends (SY.Name x n) p F = refl
system_ends (SY.Sign x n) p F = refl
system_ends (SY.End x) p F = refl

pub other_ends : (t : Top) → ((m : _) → t ≡ T.Done m → ⊥) → ((x : _) → t ≡ T.Projected x → ⊥) → ((g : _) → t ≡ T.Given g → ⊥) → ((x i fs f : _) → t ≡ T.HaveNeg x i fs f → ⊥) → (p : Past) (F : List Frame) → finish (top_of t) p F ≡ None
other_ends (T.Heading t) done projected given formula p F = heading_ends t p F
other_ends (T.Items t) done projected given formula p F = items_end t p F
other_ends (T.Block t) done projected given formula p F = block_ends t p F
other_ends (T.Done m) done projected given formula p F = absurd (done m refl)
other_ends (T.Exp r) done projected given formula p F = refl
other_ends (T.Exp1 r) done projected given formula p F = refl
other_ends (T.Names t) done projected given formula p F = names_end t p F
other_ends (T.Opened r i) done projected given formula p F = refl
other_ends (T.Maybe x) done projected given formula p F = refl
other_ends (T.Projected x) done projected given formula p F = absurd (projected x refl)
other_ends (T.Given g) done projected given formula p F = absurd (given g refl)
other_ends (T.Neg x i fs r) done projected given formula p F = refl
other_ends (T.HaveNeg x i fs f) done projected given formula p F = absurd (formula x i fs f refl)
other_ends (T.System t) done projected given formula p F = system_ends t p F
