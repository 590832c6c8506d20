-- What a script says.
use Rattle.std.specs.Prelude.{◌≡◌, ℕ, ◌≤◌, ◌-◌, ◌==◌, ◌^◌, nat_le, nat_lt, Bool, true, false}
use Rattle.std.specs.Prelude.{List, [], ◌∷◌, ◌++◌, length, take, codes, map, if◌then◌else◌}
use Rattle.std.specs.Prelude.{Option, Some, None, is_none, option_map, option_and_then, slice_get}
use Rattle.std.specs.List.{flat_map}
use Rattle.std.specs.Option.{option_to_list}
use Rattle.std.specs.Result.{result_ok}
use Rattle.std.specs.Str.{bytes_eq, all_ascii_digits}
use Rattle.std.specs.Str.Parse.{digits_value}
use Rattle.hex.specs.Hex.{decode_of}
use Rattle.wasi_abi.specs.declared.answer.Answer.{Answer}
use Rattle.wasi_abi.specs.declared.answer.Answer.TheVariants as answer
use Rattle.sector_disk.specs.declared.fault_point.FaultPoint.{FaultPoint}
use Rattle.worker.specs.declared.story.life.PlannedAct.{PlannedAct}
use Rattle.worker.specs.declared.story.life.PlannedAct.TheVariants as planned
use Rattle.worker.specs.declared.story.life.PlannedLife.{PlannedLife}
use Rattle.command_words.specs.rules.Pieces.{split_once, pieces_of}
use Rattle.story_commands.specs.declared.stories.line.ScriptLine.{ScriptLine}
use Rattle.story_commands.specs.declared.stories.line.ScriptLine.TheVariants as said
use Rattle.story_commands.specs.declared.stories.fault.LineCause.{LineCause}
use Rattle.story_commands.specs.declared.stories.fault.LineCause.TheVariants as cause
use Rattle.story_commands.specs.declared.stories.fault.ScriptFault.{ScriptFault}
use Rattle.story_commands.specs.declared.stories.fault.ScriptFault.TheVariants as fault

-- ---- numbers

-- a number that 64 bits hold
abbrev pub fits_in_64 : ℕ → Option ℕ
fits_in_64 n = if nat_lt n (2 ^ 64) then Some n else None

-- The number that the bytes spell, zeros in front or not. They are decimal digits, one or more.
abbrev pub number_spelled : List ℕ → Option ℕ
number_spelled digits =
    if all_ascii_digits digits
    then (if nat_lt 0 (length digits) then fits_in_64 (digits_value 10 digits) else None)
    else None

-- a number from 1 on
abbrev pub from_one_on : ℕ → Option ℕ
from_one_on n = if nat_lt 0 n then Some n else None

-- the number from 1 on that digits spell
abbrev pub count_spelled : List ℕ → Option ℕ
count_spelled digits = option_and_then from_one_on (number_spelled digits)

-- a number up to 512
abbrev pub up_to_a_sector : ℕ → Option ℕ
up_to_a_sector n = if nat_le n 512 then Some n else None

-- the front that digits spell, in bytes
abbrev pub front_spelled : List ℕ → Option ℕ
front_spelled digits = option_and_then up_to_a_sector (number_spelled digits)

-- a call from 1 on, and the front that it leaves
abbrev pub point_at : ℕ → ℕ → Option FaultPoint
point_at call front =
    if nat_lt 0 call then Some (record { call = call; front = front }) else None

-- the digits of a call, and those of a front
abbrev pub point_behind : List ℕ × Option (List ℕ) → Option FaultPoint
point_behind (digits, None) = None
point_behind (digits, Some behind) =
    option_and_then (λ call. option_and_then (point_at call) (front_spelled behind))
    (number_spelled digits)

-- the digits of a call, a space and those of a front
abbrev pub point_spelled : List ℕ → Option FaultPoint
point_spelled text = point_behind (split_once 32 text)

-- the digits of the steps of a batch, and those of its `most`: fewer lines may wait where it asks
abbrev pub batch_behind : List ℕ × Option (List ℕ) → Option PlannedAct
batch_behind (digits, None) = None
batch_behind (digits, Some behind) =
    option_and_then (λ fuel. option_map (planned.Batch fuel) (count_spelled behind))
    (number_spelled digits)

-- the digits of the steps, a space and those of `most`, which is from 1 on
abbrev pub batch_spelled : List ℕ → Option PlannedAct
batch_spelled text = batch_behind (split_once 32 text)

-- the fronts that these pieces spell, each of them
abbrev pub each_front : List (List ℕ) → Option (List ℕ)
each_front [] = Some []
each_front (piece ∷ pieces) =
    option_and_then (λ front. option_map (λ fronts. front ∷ fronts) (each_front pieces))
    (front_spelled piece)

-- fronts with one of these bytes between each two
abbrev pub fronts_between : ℕ → List ℕ → Option (List ℕ)
fronts_between separator text = each_front (pieces_of separator text)

-- fronts with one space between each two
abbrev pub fronts_in : List ℕ → Option (List ℕ)
fronts_in text = fronts_between 32 text

-- the bytes that hexadecimal digits of either case spell
abbrev pub hex_bytes : List ℕ → Option (List ℕ)
hex_bytes digits = result_ok (decode_of digits)

-- ---- lines

-- what a line says that is one word
abbrev pub said_alone : List ℕ → Option ScriptLine
said_alone word =
    if bytes_eq word (codes "life") then Some said.Life
    else if bytes_eq word (codes "end") then Some (said.Answer answer.End)
    else if bytes_eq word (codes "random") then Some (said.Answer (answer.Random []))
    else if bytes_eq word (codes "checkpoint") then Some (said.Act planned.Checkpoint)
    else if bytes_eq word (codes "upgrade") then Some (said.Act planned.Upgrade)
    else None

-- what a word and a number say
abbrev pub said_with_number : List ℕ → ℕ → Option ScriptLine
said_with_number word n =
    if bytes_eq word (codes "realtime") then Some (said.Answer (answer.Realtime n))
    else if bytes_eq word (codes "monotonic") then Some (said.Answer (answer.Monotonic n))
    else if bytes_eq word (codes "slice") then Some (said.Act (planned.Slice n))
    else None

-- what a word, a space, and a fault point, a count, the numbers of a batch or a number say
abbrev pub said_counted : List ℕ → List ℕ → Option ScriptLine
said_counted word rest =
    if bytes_eq word (codes "stop") then option_map said.Stop (point_spelled rest)
    else if bytes_eq word (codes "fail") then option_map said.Fail (point_spelled rest)
    else if bytes_eq word (codes "refuse") then option_map said.Refuse (count_spelled rest)
    else if bytes_eq word (codes "batch") then option_map said.Act (batch_spelled rest)
    else option_and_then (said_with_number word) (number_spelled rest)

-- what a word, a space and the rest say
abbrev pub said_with : List ℕ → List ℕ → Option ScriptLine
said_with word rest =
    if bytes_eq word (codes "request") then Some (said.Answer (answer.Request rest))
    else if bytes_eq word (codes "random")
    then option_map (λ bytes. said.Answer (answer.Random bytes)) (hex_bytes rest)
    else if bytes_eq word (codes "tears") then option_map said.Tears (fronts_in rest)
    else said_counted word rest

-- what a line says, cut at its first space
abbrev pub said_cut : List ℕ × Option (List ℕ) → Option ScriptLine
said_cut (word, None) = said_alone word
said_cut (word, Some rest) = said_with word rest

-- what a line says, if anything
abbrev pub said_by : List ℕ → Option ScriptLine
said_by text = said_cut (split_once 32 text)

-- ---- lives

-- a line that begins a life
abbrev pub life_said : ScriptLine → List ScriptLine
life_said said.Life = said.Life ∷ []
life_said _ = []

-- the answer that a line says, if it says one
abbrev pub answer_said : ScriptLine → List Answer
answer_said (said.Answer answer) = answer ∷ []
answer_said _ = []

-- the act that a line says, if it says one
abbrev pub act_said : ScriptLine → List PlannedAct
act_said (said.Act act) = act ∷ []
act_said _ = []

-- the fault point of a stop that a line says, if it says one
abbrev pub stop_said : ScriptLine → List FaultPoint
stop_said (said.Stop point) = point ∷ []
stop_said _ = []

-- the fault point of a call that fails which a line says, if it says one
abbrev pub fail_said : ScriptLine → List FaultPoint
fail_said (said.Fail point) = point ∷ []
fail_said _ = []

-- the number of a refused release that a line says, if it says one
abbrev pub refusal_said : ScriptLine → List ℕ
refusal_said (said.Refuse number) = number ∷ []
refusal_said _ = []

-- the list of fronts that a line says, if it says one
abbrev pub tears_said : ScriptLine → List (List ℕ)
tears_said (said.Tears fronts) = fronts ∷ []
tears_said _ = []

-- no list of numbers, or one that isn't empty
abbrev pub at_most_one : List ℕ → List (List ℕ)
at_most_one [] = []
at_most_one (front ∷ fronts) = (front ∷ fronts) ∷ []

-- The lines after a `life`, up to the next one, are those of this life: its answers and acts are
-- all that they say, in order. They say one stop or none, one call that fails or none, one refused
-- release or none, and one list of tears or none.
pub record SpellsLife (lines : List ScriptLine) (life : PlannedLife) : Type 0 where
  pub one_life : flat_map life_said lines ≡ []
  pub answers : life.answers ≡ flat_map answer_said lines
  pub acts : life.acts ≡ flat_map act_said lines
  pub stop : option_to_list life.stop ≡ flat_map stop_said lines
  pub fail : option_to_list life.fail ≡ flat_map fail_said lines
  pub refuse : option_to_list life.refuse ≡ flat_map refusal_said lines
  pub tears : at_most_one life.tears ≡ flat_map tears_said lines

-- the lines fall into lives: each is `life`, and what is after it up to the next one
abbrev pub AreLivesOf : List ScriptLine → List PlannedLife → Type 0
AreLivesOf lines [] = lines ≡ []
AreLivesOf lines (life ∷ lives) = (own rest : List ScriptLine)
    × (lines ≡ said.Life ∷ own ++ rest) × SpellsLife own life × AreLivesOf rest lives

-- each of these texts says something, and all that they say are these lives
abbrev pub IsScript : List (List ℕ) → List PlannedLife → Type 0
IsScript texts lives = (lines : List ScriptLine) × (map said_by texts ≡ map Some lines)
    × AreLivesOf lines lives

-- ---- why a line is refused

-- why bytes spell no number: it is too large, or they aren't digits, one or more
abbrev pub number_cause : List ℕ → LineCause
number_cause digits =
    if all_ascii_digits digits
    then (if length digits == 0 then cause.NotANumber else cause.NumberTooLarge)
    else cause.NotANumber

-- why they spell no number, or else that it is out of a bound
abbrev pub bounded_cause : LineCause → List ℕ → LineCause
bounded_cause bound digits =
    if is_none (number_spelled digits) then number_cause digits else bound

-- Why a text behind a number is no front. If it is one, the number is 0.
abbrev pub front_cause : List ℕ → LineCause
front_cause behind =
    if is_none (front_spelled behind) then bounded_cause cause.FrontTooLarge behind
    else cause.NumberIsZero

-- why two numbers aren't taken, by why the second one isn't
abbrev pub pair_cause : (List ℕ → LineCause) → List ℕ × Option (List ℕ) → LineCause
pair_cause second (digits, None) = bounded_cause cause.SecondNumberMissing digits
pair_cause second (digits, Some behind) =
    if is_none (number_spelled digits) then number_cause digits else second behind

-- why a text is no call and front
abbrev pub point_cause : List ℕ → LineCause
point_cause text = pair_cause front_cause (split_once 32 text)

-- why a text is no number of steps and `most`
abbrev pub batch_cause : List ℕ → LineCause
batch_cause text = pair_cause (bounded_cause cause.NumberIsZero) (split_once 32 text)

-- whether one number must follow a word, and nothing else
abbrev pub takes_number : List ℕ → Bool
takes_number word =
    if bytes_eq word (codes "realtime") then true
    else if bytes_eq word (codes "monotonic") then true
    else bytes_eq word (codes "slice")

-- whether a call and a front must follow it
abbrev pub takes_point : List ℕ → Bool
takes_point word =
    if bytes_eq word (codes "stop") then true else bytes_eq word (codes "fail")

-- whether a space and more must follow it
abbrev pub takes_more : List ℕ → Bool
takes_more word =
    if takes_number word then true
    else if takes_point word then true
    else if bytes_eq word (codes "request") then true
    else if bytes_eq word (codes "refuse") then true
    else if bytes_eq word (codes "batch") then true
    else bytes_eq word (codes "tears")

-- whether nothing may follow it
abbrev pub stands_alone : List ℕ → Bool
stands_alone word =
    if bytes_eq word (codes "life") then true
    else if bytes_eq word (codes "end") then true
    else if bytes_eq word (codes "checkpoint") then true
    else bytes_eq word (codes "upgrade")

-- why a line says nothing that is one word
abbrev pub alone_cause : List ℕ → LineCause
alone_cause word =
    if length word == 0 then cause.Empty
    else if takes_more word then cause.WordLacksMore
    else cause.UnknownWord

-- why a word, a space and the rest say nothing
abbrev pub with_cause : List ℕ → List ℕ → LineCause
with_cause word rest =
    if takes_number word then number_cause rest
    else if takes_point word then point_cause rest
    else if bytes_eq word (codes "refuse") then bounded_cause cause.NumberIsZero rest
    else if bytes_eq word (codes "batch") then batch_cause rest
    else if bytes_eq word (codes "random") then cause.NotHexadecimal
    else if bytes_eq word (codes "tears") then cause.NotFronts
    else if stands_alone word then cause.WordStandsAlone
    else cause.UnknownWord

-- why a line says nothing, cut at its first space
abbrev pub cut_cause : List ℕ × Option (List ℕ) → LineCause
cut_cause (word, None) = alone_cause word
cut_cause (word, Some rest) = with_cause word rest

-- why a line says nothing
abbrev pub text_cause : List ℕ → LineCause
text_cause text = cut_cause (split_once 32 text)

-- why a line can't be in the life that is begun: that has one already
abbrev pub second_cause : ScriptLine → LineCause
second_cause (said.Stop point) = cause.SecondStop
second_cause (said.Fail point) = cause.SecondFail
second_cause (said.Refuse number) = cause.SecondRefuse
second_cause (said.Tears fronts) = cause.SecondTears
second_cause _ = cause.NoLifeBegun

-- why a line that says something can't be there, where a life is begun, or where none is
abbrev pub place_cause : (ScriptLine → LineCause) → Bool → ScriptLine → LineCause
place_cause in_life true one = in_life one
place_cause in_life false _ = cause.NoLifeBegun

-- why a line is refused, by what it says, if anything
abbrev pub said_cause : (ScriptLine → LineCause) → Bool → List ℕ → Option ScriptLine → LineCause
said_cause in_life begun text None = text_cause text
said_cause in_life begun text (Some line) = place_cause in_life begun line

-- why the line of this text is refused, where a life is begun, or where none is
abbrev pub line_cause : (ScriptLine → LineCause) → Bool → List ℕ → LineCause
line_cause in_life begun text = said_cause in_life begun text (said_by text)

-- whether there is a life
abbrev pub has_a_life : List PlannedLife → Bool
has_a_life [] = false
has_a_life (life ∷ lives) = true

-- The line of this number, from 1, is the first one after which the lines spell no lives, and this
-- is why.
pub record IsFaultIn (Spells : List (List ℕ) → List PlannedLife → Type 0)
    (in_life : ScriptLine → LineCause) (texts : List (List ℕ)) (number : ℕ) (why : LineCause)
    : Type 0 where
  pub from_one : 1 ≤ number
  pub inside : number ≤ length texts
  pub lives : List PlannedLife
  pub before : Spells (take (number - 1) texts) lives
  pub none_spelled : (more : List PlannedLife) → Spells (take number texts) more → ⊥
  pub text : List ℕ
  pub text_is : slice_get texts (number - 1) ≡ Some text
  pub why_is : why ≡ line_cause in_life (has_a_life lives) text

-- so it is with a script
abbrev pub IsFaultAt : List (List ℕ) → ℕ → LineCause → Type 0
IsFaultAt texts number why = IsFaultIn IsScript second_cause texts number why

-- out of memory says nothing of the script
abbrev pub IsScriptFault : List (List ℕ) → ScriptFault → Type 0
IsScriptFault texts (fault.Line number why) = IsFaultAt texts number why
IsScriptFault texts fault.Memory = Unit {0}
