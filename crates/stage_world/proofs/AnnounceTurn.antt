-- The turn that announces one filter more keeps what the stages stand for.
use Rattle.std.proofs.Common.{◌≡◌, ℕ, ◌<◌, ◌≤◌, ltb, length, ap, sym, ◌∙◌, subst, arith, Some, None}
use Rattle.std.proofs.lemmas.Bool.{cond-false, le-ltb}
use Rattle.std.proofs.lemmas.Option.{same_Some}
use Rattle.abstract_log.specs.declared.world.World.{World}
use Rattle.toid_filter.specs.Champions.{last_share}
use Rattle.toid_filter.specs.Filters.{Announcement, mark_accepted}
use Rattle.stage_world.specs.Stages.{Datacentre}
use Rattle.stage_world.specs.MarkTurns.{announced}
use Rattle.stage_world.specs.StandsFor.{StandsAt}

-- an announcement begins
pub announce_keeps : (w : World) (d : ℕ) (z : Datacentre) (g t : ℕ) → z.announcement ≡ None → (last_share z.map g).start < t → (last_share z.map g).filters < 16 → g < length z.map
    → StandsAt w d z → StandsAt w d (announced z g t)
announce_keeps w d z g t none late room inside h =
    let new : Announcement = record { host = g; mark = t; next = 0 } in
    record {
      there = h.there;
      positions = h.positions;
      membership = h.membership;
      coverage = h.coverage;
      clients = h.clients;
      items = record {
        under_way = h.items.under_way;
        sound = record {
          each = h.items.sound.each;
          one_map = h.items.sound.one_map;
          numbers = h.items.sound.numbers;
          heard = λ i low. h.items.sound.heard i low ∙ ap (λ a. mark_accepted a i) none ∙ sym (cond-false (ltb i 0) (Some (record { host = g; from = t })) None (le-ltb i 0 (omega arith)));
          host = λ a is. subst (λ (b : Announcement). b.host < length z.map) (same_Some new a is) inside;
          asked = λ a is. subst (λ (b : Announcement). b.next ≤ length z.filters) (same_Some new a is) (omega arith);
          later = λ a is. subst (λ (b : Announcement). (last_share z.map b.host).start < b.mark) (same_Some new a is) late;
          room = λ a is. subst (λ (b : Announcement). (last_share z.map b.host).filters < 16) (same_Some new a is) room;
          there = h.items.sound.there;
          enough = h.items.sound.enough;
        };
        mapped = h.items.mapped;
      };
      knowledge = h.knowledge;
    }
