-- How many passes a loop of settling still makes. The datacentres alone decide it, whatever is in the links.
use Rattle.std.proofs.Common.{◌≡◌, ℕ, zero, suc, ◌-◌, ◌<◌, ◌≤◌, Bool, true, false, cond, List, [], ◌∷◌, length, get_or, set, replicate, refl, ap, ap₂, sym, subst, ◌∙◌, inl, inr, arith}
use Rattle.std.specs.List.{All}
use Rattle.std.proofs.lemmas.Bool.{cases_lt, cases_Bool, cond-true, cond-false, true≢false}
use Rattle.std.proofs.lemmas.List.{get_or_default, get_or_past, get_or-replicate, length-replicate, same_lists}
use Rattle.std.proofs.lemmas.List.Elements.{All-nil, All-head, All-tail, All-weaker}
use Rattle.abstract_log.specs.declared.command.Workload.{Workload}
use Rattle.abstract_log.specs.declared.script.Step.{Step}
use Rattle.abstract_log.specs.Worlds.{log_of, table_of}
use Rattle.record_codec.specs.declared.message.Message.{Message}
use Rattle.stage_world.specs.Stages.{Datacentre, Stages}
use Rattle.stage_world.specs.MoreTurns.{message_of, received}
use Rattle.stage_world.specs.Whole.{IsTold, datacentre_at, link_at, nowhere_at}
use Rattle.stage_world.specs.Schedules.{after_steps}
use Rattle.stage_world.specs.Settling.{Errand, all_rounds, after_passes, answering_rounds, errand_turns, errands, exchange, exchange_turns, has_unanswered, is_answering, has_errand, is_unfinished, sent_and_delivered, telling_rounds, IsLoop}
use Rattle.settling_laws.specs.Rounds.{IsStanding}
use Rattle.settling_laws.proofs.Rounds.{AreRoundsOf, after_steps-append, rounded_at, rounds_are}
use Rattle.settling_laws.proofs.Errands.{errand_datacentres}
use Rattle.settling_laws.proofs.Exchange.{IsErrand, errand_run, errand_stays}
use Rattle.settling_laws.proofs.TellingPass.{all_errands, all_of, all_round, dcs_of, telling}

-- A loop that ends

module _ (goes_on : Stages → Bool) (pass : Workload → Stages → List Step) (load : Workload) where
  abbrev next : Stages → Stages
  next z = after_steps load z (pass load z)

  -- how many passes the loop still makes, if it makes no more than the fuel
  abbrev pub passes_left : ℕ → Stages → ℕ
  passes_left zero z = 0
  passes_left (suc fuel) z = cond (goes_on z) (suc (passes_left fuel (next z))) zero

  -- It ends after n passes.
  pub record EndsAfter (z : Stages) (n : ℕ) : Type 0 where
    pub before : (m : ℕ) → m < n → goes_on (after_passes load pass z m) ≡ true
    pub ends : goes_on (after_passes load pass z n) ≡ false

  -- the passes from the second on
  from_second : (z : Stages) (n : ℕ) → after_passes load pass (next z) n ≡ after_passes load pass z (suc n)
  from_second z zero = refl
  from_second z (suc n) = ap next (from_second z n)

  ends_next : (z : Stages) (n : ℕ) → EndsAfter z (suc n) → EndsAfter (next z) n
  ends_next z n h = record {
    before = λ m low. ap goes_on (from_second z m) ∙ h.before (suc m) (omega (arith, low));
    ends = ap goes_on (from_second z n) ∙ h.ends;
  }

  -- they are counted
  counted : (fuel n : ℕ) (z : Stages) → EndsAfter z n → n ≤ fuel → passes_left fuel z ≡ n
  counted zero n z h few = let none : zero ≡ n = omega (arith, few) in none
  counted (suc fuel) zero z h few = cond-false (goes_on z) (suc (passes_left fuel (next z))) zero h.ends
  counted (suc fuel) (suc n) z h few = cond-true (goes_on z) (suc (passes_left fuel (next z))) zero (h.before 0 (omega arith)) ∙ ap suc (counted fuel n (next z) (ends_next z n h) (omega (arith, few)))

  -- after some of them the others are left
  others_left : (z : Stages) (n m : ℕ) → EndsAfter z n → m ≤ n → EndsAfter (after_passes load pass z m) (n - m)
  others_left z n zero h low = let all : n ≡ n - zero = omega arith in subst (EndsAfter z) all h
  others_left z n (suc m) h low =
      let one : n - m ≡ suc (n - suc m) = omega (arith, low) in
      ends_next (after_passes load pass z m) (n - suc m) (subst (EndsAfter (after_passes load pass z m)) one (others_left z n m h (omega (arith, low))))

  -- Each pass of a loop that ends comes nearer to its end.
  pub comes_nearer : (fuel n m : ℕ) (z : Stages) → EndsAfter z n → n ≤ fuel → ((k : ℕ) → k < m → goes_on (after_passes load pass z k) ≡ true) → goes_on (after_passes load pass z m) ≡ true
      → passes_left fuel (after_passes load pass z (suc m)) < passes_left fuel (after_passes load pass z m)
  comes_nearer fuel n m z h few before going =
      let early : m < n = elim (cases_lt m n) [
        | inl low ↦ low
        | inr late ↦ elim (cases_lt n m) [
          | inl past ↦ absurd (true≢false (sym (before n past) ∙ h.ends))
          | inr same ↦ let is : m ≡ n = omega (arith, late, same) in absurd (true≢false (sym going ∙ ap (λ k. goes_on (after_passes load pass z k)) is ∙ h.ends))
        ]
      ] in
      omega (
        arith,
        early,
        counted fuel (n - m) (after_passes load pass z m) (others_left z n m h (omega (arith, early))) (omega (arith, few)),
        counted fuel (n - suc m) (after_passes load pass z (suc m)) (others_left z n (suc m) h (omega (arith, early))) (omega (arith, few)),
      )

  -- a loop is such
  pub loop_ends : (z : Stages) (n : ℕ) (ts : List Step) → IsLoop load goes_on pass z n ts → EndsAfter z n
  loop_ends z n ts h = record { before = h.before; ends = h.ends }

  -- What the loop does is decided by the datacentres alone.
  pub record IsBlind : Type 0 where
    pub test : (z y : Stages) → z.datacentres ≡ y.datacentres → goes_on z ≡ goes_on y
    pub stands : (z : Stages) → IsStanding load z → IsStanding load (next z)
    pub same : (z y : Stages) → IsStanding load z → IsStanding load y → z.datacentres ≡ y.datacentres → (next z).datacentres ≡ (next y).datacentres

  -- So it makes as many passes.
  pub as_many : IsBlind → (fuel : ℕ) (z y : Stages) → IsStanding load z → IsStanding load y → z.datacentres ≡ y.datacentres → passes_left fuel z ≡ passes_left fuel y
  as_many blind zero z y hz hy same = refl
  as_many blind (suc fuel) z y hz hy same =
      ap₂ (λ (b : Bool) (k : ℕ). cond b (suc k) zero) (blind.test z y same) (as_many blind fuel (next z) (next y) (blind.stands z hz) (blind.stands y hy) (blind.same z y hz hy same))

-- Rounds

-- stages of which as many datacentres as there are are those of others
same_datacentres : (z y : Stages) → length z.datacentres ≡ length y.datacentres → ((d : ℕ) → datacentre_at z d ≡ datacentre_at y d) → z.datacentres ≡ y.datacentres
same_datacentres z y size each = same_lists z.datacentres y.datacentres size (λ d e inside.
    get_or_default z.datacentres d e nowhere_at inside ∙ each d ∙ get_or_default y.datacentres d nowhere_at e (omega (arith, inside, size)))

module _ (load : Workload) (z y : Stages) (same : z.datacentres ≡ y.datacentres) where
  here : (d : ℕ) → datacentre_at z d ≡ datacentre_at y d
  here d = ap (λ ds. get_or ds d nowhere_at) same

  rounds_same : (test : ℕ → Bool) (n : ℕ) (ts : List Step) → AreRoundsOf load z test n ts → AreRoundsOf load y test n ts → (after_steps load z ts).datacentres ≡ (after_steps load y ts).datacentres
  rounds_same test n ts of_z of_y =
      same_datacentres (after_steps load z ts) (after_steps load y ts) (of_z.datacentres ∙ ap length same ∙ sym of_y.datacentres) (λ d. elim (cases_Bool (test d)) [
        | inr none ↦ of_z.still d (λ _. none) ∙ here d ∙ sym (of_y.still d (λ _. none))
        | inl some ↦ elim (cases_lt d n) [
          | inl low ↦ of_z.done d low some ∙ ap (λ ds. rounded_at (record z { datacentres = ds }) d) same ∙ sym (of_y.done d low some)
          | inr past ↦ of_z.still d (λ low. absurd (omega (arith, low, past))) ∙ here d ∙ sym (of_y.still d (λ low. absurd (omega (arith, low, past))))
        ]
      ])

-- Answering

answers_are : (load : Workload) (z : Stages) → IsStanding load z → AreRoundsOf load z (λ d. has_unanswered (datacentre_at z d)) (length z.datacentres) (answering_rounds load z)
answers_are load z h = rounds_are load z h (λ d. has_unanswered (datacentre_at z d)) (length z.datacentres) (omega (arith, dcs_of load z h))

answers_same : (load : Workload) (z y : Stages) → IsStanding load z → IsStanding load y → z.datacentres ≡ y.datacentres
    → (after_steps load z (answering_rounds load z)).datacentres ≡ (after_steps load y (answering_rounds load y)).datacentres
answers_same load z y hz hy same =
    let is : AreRoundsOf load y (λ d. has_unanswered (datacentre_at z d)) (length z.datacentres) (answering_rounds load z) =
    subst (λ ds. AreRoundsOf load y (λ d. has_unanswered (get_or ds d nowhere_at)) (length ds) (answering_rounds load (record y { datacentres = ds }))) (sym same) (answers_are load y hy) in
    let turns : answering_rounds load z ≡ answering_rounds load y = ap (λ ds. answering_rounds load (record y { datacentres = ds })) same in
    rounds_same load z y same (λ d. has_unanswered (datacentre_at z d)) (length z.datacentres) (answering_rounds load z) (answers_are load z hz) is
    ∙ ap (λ ts. (after_steps load y ts).datacentres) turns

pub answering_is_blind : (load : Workload) → IsBlind is_answering answering_rounds load
answering_is_blind load = record {
  test = λ z y same. ap (λ ds. is_answering (record y { datacentres = ds })) same;
  stands = λ z h. (answers_are load z h).standing;
  same = answers_same load;
}

-- Telling

module _ (load : Workload) where
  abbrev After : Stages → List Step → List Datacentre
  After z ts = (after_steps load z ts).datacentres

  errand_same : (z y : Stages) (hz : IsStanding load z) (hy : IsStanding load y) (x : Errand) → z.datacentres ≡ y.datacentres → IsErrand load z x → After z (errand_turns load z x) ≡ After y (errand_turns load y x)
  errand_same z y hz hy x same good =
      let due : has_errand z x ≡ has_errand y x = ap (λ ds. has_errand (record y { datacentres = ds }) x) same in
      elim (cases_Bool (has_errand z x)) [
        | inr idle ↦
            ap (After z) (cond-false (has_errand z x) (sent_and_delivered load z x) [] idle) ∙ same
            ∙ ap (After y) (sym (cond-false (has_errand y x) (sent_and_delivered load y x) [] (sym due ∙ idle)))
        | inl runs ↦
            ap (After z) (cond-true (has_errand z x) (sent_and_delivered load z x) [] runs)
            ∙ errand_datacentres load z hz x.from x.sender x.to good.from good.to good.apart good.sender
            ∙ ap (λ ds. set ds x.to (received (get_or ds x.to nowhere_at) 0 (message_of x.from (get_or ds x.from nowhere_at) x.sender x.to))) same
            ∙ sym (errand_datacentres load y hy x.from x.sender x.to good.from good.to good.apart (subst (λ ds. x.sender < (get_or ds x.from nowhere_at).senders) same good.sender))
            ∙ ap (After y) (sym (cond-true (has_errand y x) (sent_and_delivered load y x) [] (sym due ∙ runs)))
      ]

  good_there : (z y : Stages) (x : Errand) → z.datacentres ≡ y.datacentres → IsErrand load z x → IsErrand load y x
  good_there z y x same good = record { from = good.from; to = good.to; apart = good.apart; sender = subst (λ ds. x.sender < (get_or ds x.from nowhere_at).senders) same good.sender }

  exchange_same : (xs : List Errand) (z y : Stages) → IsStanding load z → IsStanding load y → z.datacentres ≡ y.datacentres → All (IsErrand load z) xs → After z (exchange load z xs) ≡ After y (exchange load y xs)
  exchange_same [] z y hz hy same all = same
  exchange_same (x ∷ xs) z y hz hy same all =
      let good : IsErrand load z x = All-head (IsErrand load z) x xs all in
      let ts : List Step = errand_turns load z x in
      let us : List Step = errand_turns load y x in
      let z1 : Stages = after_steps load z ts in
      let y1 : Stages = after_steps load y us in
      let of_z = errand_run load z hz x good in
      let of_y = errand_run load y hy x (good_there z y x same good) in
      let rest : All (IsErrand load z1) xs = All-weaker (IsErrand load z) (IsErrand load z1) (λ u. errand_stays load z z1 u of_z.beside.each) xs (All-tail (IsErrand load z) x xs all) in
      ap (λ (s : Stages). s.datacentres) (after_steps-append load ts (exchange load z1 xs) z)
      ∙ exchange_same xs z1 y1 of_z.leads.standing of_y.leads.standing (errand_same z y hz hy x same good) rest
      ∙ ap (λ (s : Stages). s.datacentres) (sym (after_steps-append load us (exchange load y1 xs) y))

  all_same : (z y : Stages) → IsStanding load z → IsStanding load y → z.datacentres ≡ y.datacentres → After z (all_rounds z) ≡ After y (all_rounds y)
  all_same z y hz hy same =
      let turns : all_rounds z ≡ all_rounds y = ap (λ ds. all_rounds (record y { datacentres = ds })) same in
      let of_y : AreRoundsOf load y (λ _. true) (length z.datacentres) (all_rounds z) =
      subst (λ ds. AreRoundsOf load y (λ _. true) (length ds) (all_rounds (record y { datacentres = ds }))) (sym same) (all_of load y hy) in
      rounds_same load z y same (λ _. true) (length z.datacentres) (all_rounds z) (all_of load z hz) of_y ∙ ap (After y) turns

  tells_same : (z y : Stages) → IsStanding load z → IsStanding load y → z.datacentres ≡ y.datacentres → After z (telling_rounds load z) ≡ After y (telling_rounds load y)
  tells_same z y hz hy same =
      let z1 : Stages = after_steps load z (all_rounds z) in
      let y1 : Stages = after_steps load y (all_rounds y) in
      let hz1 : IsStanding load z1 = (all_round load z hz).leads.standing in
      let hy1 : IsStanding load y1 = (all_round load y hy).leads.standing in
      let mid : z1.datacentres ≡ y1.datacentres = all_same z y hz hy same in
      let them : errands z1 ≡ errands y1 = ap (λ ds. errands (record y1 { datacentres = ds })) mid in
      ap (λ (s : Stages). s.datacentres) (after_steps-append load (all_rounds z) (exchange_turns load z1) z)
      ∙ exchange_same (errands z1) z1 y1 hz1 hy1 mid (all_errands load z1 hz1)
      ∙ ap (λ xs. After y1 (exchange load y1 xs)) them
      ∙ ap (λ (s : Stages). s.datacentres) (sym (after_steps-append load (all_rounds y) (exchange_turns load y1) y))

  pub telling_is_blind : IsBlind is_unfinished telling_rounds load
  telling_is_blind = record {
    test = λ z y same. ap (λ ds. is_unfinished (record y { datacentres = ds })) same;
    stands = λ z h. (telling load z h).swapped.leads.standing;
    same = tells_same;
  }

-- Stages with nothing in their links

abbrev no_message : List Message
no_message = []

abbrev no_row : Workload → List (List Message)
no_row load = replicate load.dcs no_message

abbrev pub unlinked : Workload → List Datacentre → Stages
unlinked load ds = record { datacentres = ds; links = replicate load.dcs (no_row load) }

no_link : (load : Workload) (ds : List Datacentre) (d e : ℕ) → link_at (unlinked load ds) d e ≡ no_message
no_link load ds d e = elim (cases_lt d load.dcs) [
  | inr past ↦ ap (λ (row : List (List Message)). get_or row e []) (get_or_past (replicate load.dcs (no_row load)) d [] (omega (arith, past, length-replicate load.dcs (no_row load))))
  | inl within ↦ ap (λ (row : List (List Message)). get_or row e []) (get_or-replicate load.dcs d (no_row load) [] within) ∙ elim (cases_lt e load.dcs) [
    | inr past ↦ get_or_past (no_row load) e no_message (omega (arith, past, length-replicate load.dcs no_message))
    | inl inside ↦ get_or-replicate load.dcs e no_message no_message inside
  ]
]

-- They stand for the same world.
pub stands_unlinked : (load : Workload) (z : Stages) → IsStanding load z → IsStanding load (unlinked load z.datacentres)
stands_unlinked load z h =
    let dcs : h.world.workload.dcs ≡ load.dcs = ap (λ (l : Workload). l.dcs) h.workload in
    record {
      world = h.world;
      workload = h.workload;
      lawful = h.lawful;
      stands = record {
        shape = h.stands.shape;
        size = h.stands.size;
        each = h.stands.each;
        links = λ d e.
            let T : Message → Type 0 = IsTold h.world.workload.dcs (log_of h.world d) (table_of h.world d) d in
            subst (All T) (sym (no_link load z.datacentres d e)) (All-nil T);
        linked = (
          length-replicate load.dcs (no_row load) ∙ sym dcs,
          λ d within. ap length (get_or-replicate load.dcs d (no_row load) [] (omega (arith, within, dcs))) ∙ length-replicate load.dcs no_message ∙ sym dcs,
        );
        room = λ d e. omega (arith, ap length (no_link load z.datacentres d e));
      };
    }
