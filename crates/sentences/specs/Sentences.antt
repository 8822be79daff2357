-- An explanation as sentences, a line each.
use Rattle.std.specs.Prelude.{ℕ, List, [], ◌++◌, flat_map, codes, if◌then◌else◌, ◌==◌}
use Rattle.cache.specs.declared.units.TheConstants.Ticks.{LONGEST}
use Rattle.search.specs.declared.demand.Response.{Response}
use Rattle.search.specs.declared.demand.Response.TheVariants.{Within, Unschedulable}
use Rattle.search.specs.Positions.{hp}
use Rattle.table.specs.Tasks.{limit_of}
use Rattle.table.specs.declared.Table.{Table}
use Rattle.table.specs.Tables.{at}
use Rattle.analysis.specs.declared.costs.Single.{Single}
use Rattle.analysis.specs.declared.costs.Charge.{Charge}
use Rattle.analysis.specs.declared.costs.Charge.TheVariants.{Victim, NoVictim}
use Rattle.analysis.specs.Costs.{reloads_in, charge_under}
use Rattle.analysis.specs.declared.Method.{Method}
use Rattle.analysis.specs.declared.Method.TheVariants.{Of, Combined}
use Rattle.analysis.specs.Analysis.{response_of}
use Rattle.analysis.specs.declared.need.Need.{Need}
use Rattle.analysis.specs.Needs.{need_of}
use Rattle.writing.specs.Text.{spelled}
use Rattle.report.specs.Explanation.{activations_in, name_at}
use Rattle.methods.specs.Methods.{single_name, method_name}
use Rattle.sentences.specs.Phrases.{counted_words, ticks_words}

-- ---- the answer

-- a response, of the task with this name, and its limit
unfoldable pub response_sentence : Method → List ℕ → ℕ → ℕ → List ℕ
response_sentence m name response limit =
    codes "Under " ++ method_name m ++ codes " the response of " ++ name ++ codes " is " ++ ticks_words response
    ++ codes "; its limit is " ++ ticks_words limit ++ codes ".\n"

-- what is needed, or that it is more than is looked for
abbrev pub need_words : Response → List ℕ
need_words (Within R) = ticks_words R.0
need_words Unschedulable = codes "more than " ++ ticks_words LONGEST

-- that there is no response
unfoldable pub no_response_sentence : Method → List ℕ → Response → ℕ → List ℕ
no_response_sentence m name needed limit =
    codes "Under " ++ method_name m ++ codes " " ++ name ++ codes " has no response: it needs " ++ need_words needed
    ++ codes ", and its limit is " ++ ticks_words limit ++ codes ".\n"

abbrev pub answer_sentence : Method → List ℕ → Response → Response → ℕ → List ℕ
answer_sentence m name needed (Within R) limit = response_sentence m name R.0 limit
answer_sentence m name needed Unschedulable limit = no_response_sentence m name needed limit

-- combined goes by one of the unions
abbrev pub union_sentence : Method → Single → List ℕ
union_sentence (Of m) union = []
union_sentence Combined union = codes "Combined goes by " ++ single_name union ++ codes " here, whose figure is no larger than the other union's.\n"

-- ---- what makes it up

-- for how long an access blocks the task, where one does
abbrev pub blocking_sentence : ℕ → List ℕ
blocking_sentence lasts =
    if lasts == 0 then [] else codes "It may be blocked for " ++ ticks_words lasts ++ codes " by an access of a lower task.\n"

-- how often a task above is activated
unfoldable pub times_words : ℕ → List ℕ
times_words n =
    if n == 1 then codes "once, for "
    else if n == 2 then codes "twice, each time for "
    else spelled n ++ codes " times, each time for "

-- the task that a charge hits, where it hits a single one
abbrev pub hit_words : Table → Charge → List ℕ
hit_words table (Victim h) = codes " of " ++ name_at table h.victim
hit_words table (NoVictim n) = []

-- the reloads that each activation is charged, where there are some
unfoldable pub reload_words : Table → Charge → List ℕ
reload_words table charge =
    if reloads_in charge == 0 then []
    else codes " and " ++ counted_words (reloads_in charge) (codes " block reload") ++ hit_words table charge ++ codes " at " ++ ticks_words table.brt.0
    ++ (if reloads_in charge == 1 then [] else codes " each")

-- the task at j, above, in r ticks
unfoldable pub task_sentence : Table → ℕ → ℕ → Charge → List ℕ
task_sentence table r j charge =
    codes "Meanwhile " ++ name_at table j ++ codes " is activated " ++ times_words (activations_in r (at table j)) ++ ticks_words (at table j).work.0
    ++ reload_words table charge ++ codes ".\n"

-- what is needed, in its parts; nothing more is said of a need that is beyond
abbrev pub reason_sentences : Table → Need → ℕ → Response → List ℕ
reason_sentences table need i (Within R) =
    blocking_sentence need.blocker.lasts.0 ++ flat_map (λ j. task_sentence table R.0 j (charge_under table need.blocker need.method i j)) (hp i)
reason_sentences table need i Unschedulable = codes "So there is no sum to show.\n"

-- ---- all of them

-- by what is needed, and the response
abbrev pub sentences_by : Table → Method → ℕ → Need → Response → List ℕ
sentences_by table m i need response =
    answer_sentence m (name_at table i) need.time response (limit_of (at table i)) ++ union_sentence m need.method ++ reason_sentences table need i need.time

-- of what method m answers for the task at i
abbrev pub sentences_of : Table → Method → ℕ → List ℕ
sentences_of table m i = sentences_by table m i (need_of table m i) (response_of table m i)
