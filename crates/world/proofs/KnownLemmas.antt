-- What is asked of datacentres whose stages are known.
use Rattle.std.proofs.Common.{◌≡◌, ◌≢◌, ◌↔◌, ℕ, ◌+◌, ◌<◌, ◌≤◌, ◌&&◌, ◌||◌, Bool, true, false, List, [], ◌∷◌, length, take, get_or, refl, ap, ap₂, sym, ◌∙◌, subst, arith, Some, IsTrue, nat_lt}
use Rattle.std.specs.List.{All, filter, flat_map, list_all, list_any}
use Rattle.std.proofs.lemmas.List.Elements.{All-get_or}
use Rattle.std.proofs.lemmas.Bool.Decides.{Decides-ltb}
use Rattle.std.proofs.lemmas.List.Folds.{list_all_at, list_all_more, list_any_at, list_any_more}
use Rattle.std.specs.Option.{ForSome}
use Rattle.abstract_log.specs.declared.command.Workload.{Workload}
use Rattle.abstract_log.specs.declared.script.Script.{Script}
use Rattle.abstract_log.specs.Fits.{FitsLimits}
use Rattle.abstract_log.specs.Runs.{world_of}
use Rattle.log_laws.proofs.LimitedRuns.{laws_of_run}
use Rattle.abstract_log.specs.declared.script.Sizes.{Sizes}
use Rattle.stage_world.specs.Stages.{Datacentre, Stages, sizes_of}
use Rattle.stage_world.specs.Whole.{datacentre_at, nowhere_at}
use Rattle.stage_world.specs.MoreTurns.{message_of, same_counts}
use Rattle.stage_world.specs.Settling.{Errand, below, errands, has_unanswered, is_unanswered}
use Rattle.datacentre.specs.Seen.{DatacentreState, StandsForALog}
use Rattle.world.specs.Settled.{AreKnown, IsKnown, errands_from}
use Rattle.world.specs.Taking.{HasTaken, HaveTakenTurns, StagesState, TakenTurn, stages_after}
use Rattle.world.proofs.NetworkLemmas.{length-states, states_at}
use Rattle.world.proofs.TakingLemmas.{run_of}
use Rattle.world.proofs.RoundLemmas.{take_all}

-- what is said of its stages, if there are some, is true of them
pub told : (P : Datacentre → Type 0) (d : ℕ) (z : Datacentre) (x : DatacentreState) → IsKnown d z x → ForSome x.stages P → P z
told P d z x known is = is z (ap (λ (s : DatacentreState). s.stages) known.is)

-- what is said of them where they stand for a log, too
pub told_log : (P : Datacentre → Type 0) (d : ℕ) (z : Datacentre) (x : DatacentreState) → IsKnown d z x → ForSome x.stages (λ y. StandsForALog x.dc y → P y) → P z
told_log P d z x known is =
    is z (ap (λ (s : DatacentreState). s.stages) known.is) (subst (λ n. StandsForALog n z) (sym (ap (λ (s : DatacentreState). s.dc) known.is)) known.log)

-- so it may be asked
pub asks : (d : ℕ) (z : Datacentre) (x : DatacentreState) → IsKnown d z x → ForSome x.stages (StandsForALog x.dc)
asks d z x known =
    let P : DatacentreState → Type 0 = λ s. ForSome s.stages (StandsForALog s.dc) in
    subst P (sym known.is) (λ y is. subst (StandsForALog d) (same z y is) known.log)
  where
    same : (a b : Datacentre) → Some a ≡ Some b → a ≡ b
    same a b is = cc

module _ (z : Stages) (xs : List DatacentreState) (known : AreKnown z xs) where
  -- how many there are
  pub count_known : length xs ≡ length z.datacentres
  count_known = ap length known.shown ∙ length-states 0 z.datacentres

  -- each is known
  pub known_at : (d : ℕ) (x : DatacentreState) → d < length xs → x ≡ get_or xs d x → IsKnown d (datacentre_at z d) x
  known_at d x within here =
      let inside : d < length z.datacentres = omega (arith, within, count_known) in
      let there : d ≡ 0 + d = omega arith in
      record {
        is = here ∙ ap (λ ys. get_or ys d x) known.shown ∙ states_at 0 z.datacentres d x inside ∙ ap (λ k. record { dc = k; stages = Some (datacentre_at z d) }) (sym there);
        log = record { world = known.world; lawful = known.lawful; stands = known.stands.each d (omega (arith, inside, known.stands.size)) };
      }

pub known_of : (script : Script) (ts : List TakenTurn) (s : StagesState) → HasTaken script ts s → AreKnown (stages_after script ts) s.network.datacentres
known_of script ts s h =
    let run = run_of script ts s h in
    record {
      world = world_of s.workload s.events;
      lawful = laws_of_run s.workload s.events (subst FitsLimits (sym h.workload) h.fits.limits) run.0;
      stands = run.1;
      shown = h.shown.datacentres;
      few = omega (arith, h.shown.count, h.fits.limits.workload.few);
    }

pub known_some : (s : StagesState) → HaveTakenTurns s → (z : Stages) × AreKnown z s.network.datacentres
known_some s h = (stages_after h.script h.turns, known_of h.script h.turns s h.taken)

-- Tests of each of them, one after another: what is known of the first so many, and of all

module _ (p : Datacentre → Bool) (z : Stages) (xs items : List DatacentreState) (known : AreKnown z xs) (same : items ≡ xs) where
  abbrev zs : List Datacentre
  zs = z.datacentres

  inside : (i : ℕ) → i < length items → i < length zs
  inside i within = omega (arith, within, ap length same, count_known z xs known)

  whole : (i : ℕ) → length items ≤ i → take i zs ≡ zs
  whole i past = take_all zs i (omega (arith, past, ap length same, count_known z xs known))

  pub any_next : (i : ℕ) (b : Bool) → i < length items → b ≡ p (datacentre_at z i) → b ≡ false → list_any p (take i zs) ≡ false → list_any p (take (i + 1) zs) ≡ false
  any_next i b within is fails before = list_any_more p zs i nowhere_at (inside i within) ∙ ap₂ (λ x y. x || y) before (sym is ∙ fails)

  pub any_here : (i : ℕ) (b : Bool) → i < length items → b ≡ p (datacentre_at z i) → b ≡ true → true ≡ list_any p zs
  any_here i b within is passes = sym (list_any_at p zs i nowhere_at (inside i within) (sym is ∙ passes))

  pub any_none : (i : ℕ) → length items ≤ i → list_any p (take i zs) ≡ false → false ≡ list_any p zs
  any_none i past none = sym (ap (list_any p) (sym (whole i past)) ∙ none)

  pub all_next : (i : ℕ) (b : Bool) → i < length items → b ≡ p (datacentre_at z i) → b ≡ true → list_all p (take i zs) ≡ true → list_all p (take (i + 1) zs) ≡ true
  all_next i b within is passes before = list_all_more p zs i nowhere_at (inside i within) ∙ ap₂ (λ x y. x && y) before (sym is ∙ passes)

  pub all_fail : (i : ℕ) (b : Bool) → i < length items → b ≡ p (datacentre_at z i) → b ≡ false → false ≡ list_all p zs
  all_fail i b within is fails = sym (list_all_at p zs i nowhere_at (inside i within) (sym is ∙ fails))

  pub all_pass : (i : ℕ) → length items ≤ i → list_all p (take i zs) ≡ true → true ≡ list_all p zs
  all_pass i past all = sym (ap (list_all p) (sym (whole i past)) ∙ all)

-- what the one that the loop is at answers
module _ (z : Stages) (xs items : List DatacentreState) (known : AreKnown z xs) (same : items ≡ xs) (i : ℕ) (x : DatacentreState) (within : i < length items) (here : x ≡ get_or items i x) where
  item_is : IsKnown i (datacentre_at z i) x
  item_is = known_at z xs known i x (omega (arith, within, ap length same)) (here ∙ ap (λ ys. get_or ys i x) same)

  pub unanswered_at : (b : Bool) → ForSome x.stages (λ y. b ≡ list_any is_unanswered y.sessions) → b ≡ has_unanswered (datacentre_at z i)
  unanswered_at b f = told (λ y. b ≡ has_unanswered y) i (datacentre_at z i) x item_is f

  pub counts_at : (counts : List ℕ) → ForSome x.stages (λ y. counts ≡ y.token.counts) → counts ≡ (datacentre_at z i).token.counts
  counts_at counts f = told (λ y. counts ≡ y.token.counts) i (datacentre_at z i) x item_is f

  pub same_at : (counts : List ℕ) (b : Bool) → ForSome x.stages (λ y. b ≡ same_counts counts y.token.counts) → b ≡ same_counts counts (datacentre_at z i).token.counts
  same_at counts b f = told (λ y. b ≡ same_counts counts y.token.counts) i (datacentre_at z i) x item_is f

-- A datacentre by its letter

pub asks_of : (P : Datacentre → Type 0) (d : ℕ) (z : Datacentre) (x : DatacentreState) → IsKnown d z x → P z → ForSome x.stages P
asks_of P d z x known holds = subst (λ (s : DatacentreState). ForSome s.stages P) (sym known.is) (λ y is. subst P (same_stages z y is) holds)
  where
    same_stages : (a b : Datacentre) → Some a ≡ Some b → a ≡ b
    same_stages a b is = cc

pub some_if : {A : Type 0} (b : Bool) (xs : List A) → IsTrue b ↔ (xs ≢ []) → b ≡ nat_lt 0 (length xs)
some_if true [] tells = absurd (tells.0 refl refl)
some_if false [] tells = refl
some_if true (x ∷ xs) tells = sym ((Decides-ltb 0 (length (x ∷ xs))).1 (omega arith))
some_if false (x ∷ xs) tells = absurd (let holds : IsTrue false = tells.1 (λ e. absurd (cc)) in cc)

module _ (z : Stages) (xs : List DatacentreState) (known : AreKnown z xs) (d i : ℕ) (x : DatacentreState) (same : i ≡ d) (within : d < length xs) (here : x ≡ get_or xs i x) where
  pub lettered : IsKnown d (datacentre_at z d) x
  lettered = known_at z xs known d x within (here ∙ ap (λ j. get_or xs j x) same)

  pub table_within : (to : ℕ) → to < length xs → ForSome x.stages (λ y. to < length y.table)
  table_within to less =
      let inside : d < known.world.workload.dcs = omega (arith, within, count_known z xs known, known.stands.size) in
      asks_of (λ y. to < length y.table) d (datacentre_at z d) x lettered
      (omega (arith, less, count_known z xs known, known.stands.size, (known.stands.each d inside).knowledge.aware.square.rows))

  pub asks_letter : ForSome x.stages (StandsForALog x.dc)
  asks_letter = asks d (datacentre_at z d) x lettered

  pub told_letter : (P : Datacentre → Type 0) → ForSome x.stages P → P (datacentre_at z d)
  told_letter P f = told P d (datacentre_at z d) x lettered f

  pub told_letter_log : (P : Datacentre → Type 0) → ForSome x.stages (λ y. StandsForALog x.dc y → P y) → P (datacentre_at z d)
  told_letter_log P f = told_log P d (datacentre_at z d) x lettered f

  pub more_letter : (k to : ℕ) (b : Bool) → ForSome x.stages (λ y. IsTrue b ↔ ((message_of x.dc y k to).records ≢ [])) → b ≡ nat_lt 0 (length (message_of d (datacentre_at z d) k to).records)
  more_letter k to b f =
      some_if b (message_of d (datacentre_at z d) k to).records
      (subst (λ (s : DatacentreState). ForSome s.stages (λ y. IsTrue b ↔ ((message_of s.dc y k to).records ≢ []))) lettered.is f (datacentre_at z d) refl)

-- what its senders have to do
pub errands_are : (z : Stages) (d i dcs : ℕ) (sizes : Sizes) → d ≡ i → sizes ≡ sizes_of (datacentre_at z d) → errands_from d dcs sizes.senders ≡ errands_from i dcs (datacentre_at z i).senders
errands_are z d i dcs sizes same is = ap (λ (s : Sizes). errands_from d dcs s.senders) is ∙ ap (λ n. errands_from n dcs (datacentre_at z n).senders) same

-- Stages that have taken turns

pub few_dcs : (s : StagesState) → HaveTakenTurns s → s.workload.dcs ≤ 8
few_dcs s h = subst (λ (l : Workload). l.dcs ≤ 8) (sym h.taken.workload) h.taken.fits.limits.workload.few

pub count_there : (s : StagesState) → HaveTakenTurns s → length s.network.datacentres ≡ s.workload.dcs
count_there s h =
    let known = known_of h.script h.turns s h.taken in
    count_known (stages_after h.script h.turns) s.network.datacentres known ∙ h.taken.shown.count ∙ ap (λ (l : Workload). l.dcs) (sym h.taken.workload)

-- what was asked of each number below the last was asked of all

pub answering_all : (z : Stages) (xs : List DatacentreState) (ds : List ℕ) (dcs i : ℕ) → AreKnown z xs → dcs ≡ length xs → i ≡ dcs → ds ≡ filter (λ d. has_unanswered (datacentre_at z d)) (below i) → ds ≡ filter (λ d. has_unanswered (datacentre_at z d)) (below (length z.datacentres))
answering_all z xs ds dcs i known all last is = is ∙ ap (λ n. filter (λ d. has_unanswered (datacentre_at z d)) (below n)) (last ∙ all ∙ count_known z xs known)

pub errands_all_are : (z : Stages) (xs : List DatacentreState) (them : List Errand) (dcs i : ℕ) → AreKnown z xs → dcs ≡ length xs → i ≡ dcs → them ≡ flat_map (λ d. errands_from d dcs (datacentre_at z d).senders) (below i) → them ≡ errands z
errands_all_are z xs them dcs i known all last is =
    is ∙ ap₂ (λ n k. flat_map (λ d. errands_from d n (datacentre_at z d).senders) (below k)) (all ∙ count_known z xs known) (last ∙ all ∙ count_known z xs known)

-- one of a list of datacentres that are there
pub item_within : (n : ℕ) (ds : List ℕ) (i d : ℕ) → All (λ x. x < n) ds → i < length ds → d ≡ get_or ds i d → d < n
item_within n ds i d all within here = subst (λ x. x < n) (sym here) (All-get_or (λ x. x < n) ds i d within all)
