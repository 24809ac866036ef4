-- One errand of an exchange: a sender sends, and what it sent is delivered.
use Rattle.std.proofs.Common.{◌≡◌, ◌≢◌, ℕ, suc, ◌%◌, ◌<◌, ◌≤◌, cond, ltb, List, [], ◌∷◌, ◌++◌, length, map, drop, get_or, set, refl, ap, sym, subst, ◌∙◌, inl, inr, arith, Some}
use Rattle.std.specs.List.{All, Contains}
use Rattle.std.specs.Option.{option_map_or}
use Rattle.std.proofs.lemmas.List.{get_or-set_same, get_or-set_other, length-set, length_push}
use Rattle.std.proofs.lemmas.List.Elements.{All-nil, All-cons}
use Rattle.std.proofs.lemmas.Bool.{cases_lt, cases_eq, cond_both, lt-ltb}
use Rattle.causal_deps.specs.declared.record.Item.TheVariants.{External}
use Rattle.causal_deps.specs.Counts.{entry_of}
use Rattle.causal_deps.specs.Logs.{count_of}
use Rattle.causal_deps.proofs.CountsLemmas.{entry_of-greater_rows}
use Rattle.causal_deps.proofs.Lists.{slice_get_at_end}
use Rattle.abstract_log.specs.declared.command.Workload.{Workload}
use Rattle.abstract_log.specs.declared.event.Event.{Event}
use Rattle.abstract_log.specs.declared.event.Event.TheVariants.{Receive}
use Rattle.abstract_log.specs.declared.script.Outcome.TheVariants.{Absent}
use Rattle.abstract_log.specs.declared.script.Step.{Step}
use Rattle.abstract_log.specs.declared.script.Step.TheVariants.{Send, Deliver}
use Rattle.abstract_log.specs.declared.world.World.{World}
use Rattle.abstract_log.specs.Steps.{after, names_with}
use Rattle.abstract_log.specs.Worlds.{log_of, pending_of}
use Rattle.lossy_links.specs.Links.{message_at, put_last, without}
use Rattle.record_codec.specs.declared.message.Message.{Message}
use Rattle.stage_world.specs.Stages.{Datacentre, Stages, batcher_at}
use Rattle.stage_world.specs.MoreTurns.{message_of, names_of, received, receive_turn}
use Rattle.stage_world.specs.LinkTurns.{Moved, still, moved_at, with_link, put_in_link, send_turn, link_length}
use Rattle.stage_world.specs.Whole.{datacentre_at, link_at, nowhere_at, with_turn}
use Rattle.abstract_log.specs.Turns.{IsStep}
use Rattle.stage_world.specs.Schedules.{step_of, after_steps}
use Rattle.stage_world.specs.Settling.{sent_and_delivered}
use Rattle.stage_world.proofs.ReceiveTurn.{names_come}
use Rattle.settling_laws.specs.Rounds.{IsStanding}
use Rattle.settling_laws.proofs.Live.{stands_at}
use Rattle.settling_laws.proofs.Behind.{IsDueAt, LeadsTo, LeadsBy, step_leads, step_leads_by, behind_both}
use Rattle.settling_laws.proofs.LocalRound.{live_at}

-- Between z and y only batchers and the table changed; there are as many batchers, and the table grew.
pub record IsBeside (z y : Datacentre) : Type 0 where
  pub rest : y ≡ record z { batchers = y.batchers; table = y.table }
  pub batchers : length y.batchers ≡ length z.batchers
  pub table : (k h : ℕ) → entry_of z.table k h ≤ entry_of y.table k h

pub beside_itself : (z : Datacentre) → IsBeside z z
beside_itself z = record { rest = refl; batchers = refl; table = λ k h. omega arith }

pub beside_both : (x y z : Datacentre) → IsBeside x y → IsBeside y z → IsBeside x z
beside_both x y z a b = record {
  rest = b.rest ∙ ap (λ (v : Datacentre). record v { batchers = z.batchers; table = z.table }) a.rest;
  batchers = b.batchers ∙ a.batchers;
  table = λ k h. omega (arith, a.table k h, b.table k h);
}

-- There are as many datacentres, and each is beside what it was.
pub record AreBeside (z new : Stages) : Type 0 where
  pub datacentres : length new.datacentres ≡ length z.datacentres
  pub each : (g : ℕ) → IsBeside (datacentre_at z g) (datacentre_at new g)

pub all_beside_themselves : (z : Stages) → AreBeside z z
all_beside_themselves z = record { datacentres = refl; each = λ g. beside_itself (datacentre_at z g) }

pub all_beside_both : (x y z : Stages) → AreBeside x y → AreBeside y z → AreBeside x z
all_beside_both x y z a b = record {
  datacentres = b.datacentres ∙ a.datacentres;
  each = λ g. beside_both (datacentre_at x g) (datacentre_at y g) (datacentre_at z g) (a.each g) (b.each g);
}

-- the message that went last into a list is found there
last_found : (ms : List Message) (m : Message) → message_at (ms ++ m ∷ []) (length (ms ++ m ∷ [])) ≡ Some m
last_found ms m =
    let size : length (ms ++ m ∷ []) ≡ suc (length ms) = omega (arith, length_push ms m) in
    ap (message_at (ms ++ m ∷ [])) size ∙ slice_get_at_end ms m

put_found : (ms : List Message) (m : Message) → message_at (put_last ms m) (length (put_last ms m)) ≡ Some m
put_found ms m = cond_both (ltb (length ms) 64) (ms ++ m ∷ []) (drop 1 ms ++ m ∷ []) (λ (xs : List Message). message_at xs (length xs) ≡ Some m) (λ _. last_found ms m) (λ _. last_found (drop 1 ms) m)

-- What an errand from d to e with message m leaves.
pub record IsErrandDone (load : Workload) (z : Stages) (h : IsStanding load z) (d e : ℕ) (m : Message) (new : Stages) : Type 0 where
  pub leads : LeadsTo load z new h
  pub beside : AreBeside z new
  pub told : (k g : ℕ) → entry_of m.table k g ≤ entry_of (datacentre_at new e).table k g
  pub due : (n : ℕ × ℕ) → Contains (names_of m.records) n → IsDueAt leads.standing.world e n.0 n.1

module _ (load : Workload) (z : Stages) (h : IsStanding load z) (d k e : ℕ) (in_d : d < load.dcs) (in_e : e < load.dcs) (apart : d ≢ e) (sender : k < (datacentre_at z d).senders) where
  abbrev m : Message
  m = message_of d (datacentre_at z d) k e

  abbrev send : Step
  send = Send d k e

  good_send : IsStep load send
  good_send = record { first = in_d; second = in_e; apart = apart }

  -- once it is sent
  abbrev y : Stages
  y = put_in_link z d e m

  sent_is : (step_of load z send).after ≡ y
  sent_is = ap (λ b. (cond b (send_turn z d k e) (still Absent z)).after) (lt-ltb k (datacentre_at z d).senders sender)

  stands_y : LeadsTo load z y h
  stands_y = subst (λ s. LeadsTo load z s h) sent_is (step_leads load z send good_send h)

  dcs_are : h.world.workload.dcs ≡ load.dcs
  dcs_are = ap (λ (l : Workload). l.dcs) h.workload

  link_is : link_at y d e ≡ put_last (link_at z d e) m
  link_is =
      let in_links : d < length z.links = omega (arith, in_d, h.stands.linked.0, dcs_are) in
      let in_row : e < length (get_or z.links d []) = omega (arith, in_e, h.stands.linked.1 d (omega (arith, in_d, dcs_are)), dcs_are) in
      ap (λ row. get_or row e []) (get_or-set_same z.links d (set (get_or z.links d []) e (put_last (link_at z d e) m)) [] in_links) ∙ get_or-set_same (get_or z.links d []) e (put_last (link_at z d e) m) [] in_row

  abbrev n : ℕ
  n = link_length y d e

  found : message_at (link_at y d e) n ≡ Some m
  found = subst (λ ms. message_at ms (length ms) ≡ Some m) (sym link_is) (put_found (link_at z d e) m)

  abbrev deliver : Step
  deliver = Deliver d e n 0

  good_deliver : IsStep load deliver
  good_deliver = record { first = in_d; second = in_e; apart = apart }

  abbrev freed : Stages
  freed = with_link y d e (without (link_at y d e) n)

  receivers : 0 < (datacentre_at z e).receivers
  receivers = omega (arith, (stands_at load e (datacentre_at z e) (live_at load e z in_e h)).membership.members.ranges.receivers.0)

  delivered_is : step_of load y deliver ≡ moved_at freed e (receive_turn e (datacentre_at z e) 0 m)
  delivered_is =
      ap (λ b. cond b (option_map_or (λ x. moved_at freed e (receive_turn e (datacentre_at z e) 0 x)) (message_at (link_at y d e) n) (still Absent y)) (still Absent y)) (lt-ltb 0 (datacentre_at z e).receivers receivers)
      ∙ ap (λ o. option_map_or (λ x. moved_at freed e (receive_turn e (datacentre_at z e) 0 x)) o (still Absent y)) found

  abbrev new : Stages
  new = with_turn freed e (received (datacentre_at z e) 0 m)

  -- the stages after both steps
  done_is : after_steps load z (sent_and_delivered load z (record { from = d; to = e; sender = k })) ≡ new
  done_is = ap (λ s. (step_of load s (Deliver d e (link_length s d e) 0)).after) sent_is ∙ ap (λ (x : Moved). x.after) delivered_is

  -- the datacentres are decided by those before
  pub errand_datacentres : (after_steps load z (sent_and_delivered load z (record { from = d; to = e; sender = k }))).datacentres ≡ set z.datacentres e (received (datacentre_at z e) 0 (message_of d (datacentre_at z d) k e))
  errand_datacentres = ap (λ (s : Stages). s.datacentres) done_is

  good_steps : All (IsStep load) (sent_and_delivered load z (record { from = d; to = e; sender = k }))
  good_steps = All-cons (IsStep load) send (Deliver d e (link_length (step_of load z send).after d e) 0 ∷ []) good_send
      (All-cons (IsStep load) (Deliver d e (link_length (step_of load z send).after d e) 0) [] (record { first = in_d; second = in_e; apart = apart }) (All-nil (IsStep load)))

  abbrev receive : Event
  receive = Receive e d m.table (names_of m.records)

  by : LeadsBy load y new stands_y.standing (receive ∷ [])
  by = subst (λ (x : Moved). LeadsBy load y x.after stands_y.standing x.events) delivered_is (step_leads_by load y deliver good_deliver stands_y.standing)

  inside : e < length z.datacentres
  inside = omega (arith, in_e, h.stands.size, dcs_are)

  at_e : datacentre_at new e ≡ received (datacentre_at z e) 0 m
  at_e = get_or-set_same z.datacentres e (received (datacentre_at z e) 0 m) nowhere_at inside

  received_beside : IsBeside (datacentre_at z e) (received (datacentre_at z e) 0 m)
  received_beside = record {
    rest = refl;
    batchers = length-set (datacentre_at z e).batchers (0 % length (datacentre_at z e).batchers) (batcher_at (datacentre_at z e).batchers (0 % length (datacentre_at z e).batchers) ++ map External m.records);
    table = λ i g. omega (arith, entry_of-greater_rows (datacentre_at z e).table m.table i g);
  }

  -- the names are awaited
  come : (w : World) (x : ℕ × ℕ) → e < length w.pending → Contains (names_of m.records) x → IsDueAt (after w receive) e x.0 x.1
  come w x within has = elim (cases_lt (count_of (log_of w e) x.0) x.1) [
    | inr known ↦ inr known
    | inl unknown ↦ inl (subst (λ ns. Contains ns x) (sym (get_or-set_same w.pending e (names_with (log_of w e) (pending_of w e) (names_of m.records)) [] within)) (names_come (log_of w e) (pending_of w e) (names_of m.records) x has unknown))
  ]

  errand_done : IsErrandDone load z h d e m new
  errand_done =
      let leads : LeadsTo load z new h = record { standing = by.standing; behind = behind_both h.world stands_y.standing.world by.standing.world stands_y.behind by.behind } in
      record {
        leads = leads;
        beside = record {
          datacentres = length-set z.datacentres e (received (datacentre_at z e) 0 m);
          each = λ g. elim (cases_eq g e) [
            | inl same ↦ subst (λ j. IsBeside (datacentre_at z j) (datacentre_at new j)) (sym same) (subst (IsBeside (datacentre_at z e)) (sym at_e) received_beside)
            | inr other ↦ subst (IsBeside (datacentre_at z g)) (sym (get_or-set_other z.datacentres e g (received (datacentre_at z e) 0 m) nowhere_at other)) (beside_itself (datacentre_at z g))
          ];
        };
        told = λ i g. omega (arith, ap (λ (v : Datacentre). entry_of v.table i g) at_e, entry_of-greater_rows (datacentre_at z e).table m.table i g);
        due = λ x has. subst (λ v. IsDueAt v e x.0 x.1) (sym by.world)
            (come stands_y.standing.world x (omega (arith, in_e, stands_y.standing.lawful.shape.pending, ap (λ (l : Workload). l.dcs) stands_y.standing.workload)) has);
      }

  -- An errand that is due.
  pub errand_runs : All (IsStep load) (sent_and_delivered load z (record { from = d; to = e; sender = k })) × IsErrandDone load z h d e m (after_steps load z (sent_and_delivered load z (record { from = d; to = e; sender = k })))
  errand_runs = (good_steps, subst (IsErrandDone load z h d e m) (sym done_is) errand_done)
