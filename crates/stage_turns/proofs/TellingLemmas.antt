-- What one vector tells another.
use Rattle.std.proofs.Common.{◌≡◌, ◌≢◌, ◌↔◌, ℕ, ◌<◌, ◌||◌, not, Bool, true, false, List, [], length, set, get_or, refl, ap, sym, ◌∙◌, subst, inl, inr, arith}
use Rattle.std.specs.Bool.{IsTrue}
use Rattle.std.proofs.lemmas.Bool.{cases_eq, false≢true}
use Rattle.std.proofs.lemmas.List.{get_or-map, get_or-set_other, length-map, length-set, same_lists}
use Rattle.std.proofs.lemmas.List.Elements.{All-get_or}
use Rattle.causal_deps.specs.declared.record.Record.{Record}
use Rattle.abstract_log.specs.declared.world.World.{World}
use Rattle.flstore_rounds.specs.Epochs.{IsPrefix}
use Rattle.flstore_rounds.specs.Heads.{Pair, IsTruePair, blank, with_own}
use Rattle.maintainer.specs.Maintainers.{MaintainerState, OwnsAll, plain}
use Rattle.maintainer.proofs.StateLemmas.{plain_mark}
use Rattle.stage_world.specs.Stages.{Datacentre, IsFilledIn, maintainer_at, no_epochs, no_maintainer, vector_at}
use Rattle.stage_world.specs.StandsFor.{StandsAt}
use Rattle.stage_world.specs.Turns.{gossiped}
use Rattle.stage_world.specs.Idle.{TellsApart}
use Rattle.stage_turns.specs.Changing.{marks_in}
use Rattle.stage_turns.specs.Telling.{MayGossip, own_vector, vectors_told}
use Rattle.stage_turns.proofs.ChangeLemmas.{tells_other, tells_same}

-- a vector's list is the beginning of the token's
known_vector : (w : World) (d : ℕ) (z : Datacentre) (k : ℕ) → StandsAt w d z → k < length z.maintainers → IsPrefix (vector_at z.vectors k).epochs z.token.epochs
known_vector w d z k h there =
    (All-get_or (IsTruePair z.token.epochs (IsFilledIn z.maintainers)) z.vectors k (blank no_epochs) (omega (arith, h.membership.members.vectors)) h.coverage.heads).known

-- a maintainer, whatever room it has, and vectors of which those at `from` and `to` are m's and k's, meet what `gossip` asks
pub may_gossip : (w : World) (d : ℕ) (z : Datacentre) (m k from to : ℕ) (x : MaintainerState Record) (vs : List Pair) → StandsAt w d z → m < length z.maintainers → k < length z.maintainers
    → plain x ≡ maintainer_at z.maintainers m → from < length vs → to < length vs → vector_at vs from ≡ vector_at z.vectors m → vector_at vs to ≡ vector_at z.vectors k → MayGossip x vs from to
may_gossip w d z m k from to x vs h in_m in_k same in_from in_to teller hearer =
    let owns : OwnsAll z.token.epochs (maintainer_at z.maintainers m) = All-get_or (OwnsAll z.token.epochs) z.maintainers m no_maintainer in_m h.membership.owned.maintainers in
    let known : OwnsAll z.token.epochs (plain x) = subst (OwnsAll z.token.epochs) (sym same) owns in
    record {
      teller = in_from;
      hearer = in_to;
      whole = z.token.epochs;
      own = known.known;
      told = subst (λ (v : Pair). IsPrefix v.epochs z.token.epochs) (sym teller) (known_vector w d z m h in_m);
      heard = subst (λ (v : Pair). IsPrefix v.epochs z.token.epochs) (sym hearer) (known_vector w d z k h in_k);
    }

-- the own vector is the same, whatever room the maintainer has
own_plain : (m from : ℕ) (x : MaintainerState Record) (vs : List Pair) → own_vector m (plain x) vs from ≡ own_vector m x vs from
own_plain m from x vs = ap (with_own (vector_at vs from) x.epochs m) (plain_mark x)

-- where the list has all vectors, this is the turn of all stages
pub gossip_is_turn : (z : Datacentre) (m k : ℕ) (x : MaintainerState Record) → plain x ≡ maintainer_at z.maintainers m → vectors_told z.vectors m k (own_vector m x z.vectors m) ≡ (gossiped z m k).vectors
gossip_is_turn z m k x same = ap (vectors_told z.vectors m k) (sym (own_plain m m x z.vectors)) ∙ ap (λ (y : MaintainerState Record). vectors_told z.vectors m k (own_vector m y z.vectors m)) same

-- what is told of marks

marks_there : (vs : List Pair) (k : ℕ) (d : List ℕ) → k < length vs → get_or (marks_in vs) k d ≡ (vector_at vs k).marks
marks_there vs k d within = get_or-map (λ (v : Pair). v.marks) vs k (blank no_epochs) d within

module _ (vs : List Pair) (from to : ℕ) (own heard : Pair) where
  abbrev told : List Pair
  told = set vs from own

  abbrev ws : List Pair
  ws = set told to heard

  as_many : length ws ≡ length vs
  as_many = length-set told to heard ∙ length-set vs from own

  abbrev AreSame : ℕ → Type 0
  AreSame k = (vector_at vs k).marks ≡ (vector_at ws k).marks

  elsewhere : (k : ℕ) → k ≢ from → k ≢ to → AreSame k
  elsewhere k not_from not_to =
      ap (λ (v : Pair). v.marks) (sym (get_or-set_other told to k heard (blank no_epochs) not_to ∙ get_or-set_other vs from k own (blank no_epochs) not_from))

  all_same : AreSame from → AreSame to → (k : ℕ) → AreSame k
  all_same at_from at_to k = elim (cases_eq k from) [
    | inl same ↦ subst AreSame (sym same) at_from
    | inr not_from ↦ elim (cases_eq k to) [
      | inl same ↦ subst AreSame (sym same) at_to
      | inr not_to ↦ elsewhere k not_from not_to
    ]
  ]

  same_marks : AreSame from → AreSame to → marks_in vs ≡ marks_in ws
  same_marks at_from at_to =
      let size : length (marks_in vs) ≡ length vs = length-map vs (λ (v : Pair). v.marks) in
      same_lists (marks_in vs) (marks_in ws) (size ∙ sym as_many ∙ sym (length-map ws (λ (v : Pair). v.marks)))
      (λ k d within. marks_there vs k d (omega (arith, within, size)) ∙ all_same at_from at_to k ∙ sym (marks_there ws k d (omega (arith, within, size, as_many))))

  same_at : (k : ℕ) → k < length vs → marks_in vs ≡ marks_in ws → AreSame k
  same_at k within same = sym (marks_there vs k [] within) ∙ ap (λ (rows : List (List ℕ)). get_or rows k []) same ∙ marks_there ws k [] (omega (arith, within, as_many))

  by_both : (a b : Bool) → from < length vs → to < length vs → IsTrue a ↔ AreSame from → IsTrue b ↔ AreSame to → TellsApart (not a || not b) (marks_in vs) (marks_in ws)
  by_both true true in_from in_to first second = tells_same (marks_in vs) (marks_in ws) (same_marks (first.0 refl) (second.0 refl))
  by_both true false in_from in_to first second = tells_other (marks_in vs) (marks_in ws) (λ same. absurd (false≢true (second.1 (same_at to in_to same))))
  by_both false true in_from in_to first second = tells_other (marks_in vs) (marks_in ws) (λ same. absurd (false≢true (first.1 (same_at from in_from same))))
  by_both false false in_from in_to first second = tells_other (marks_in vs) (marks_in ws) (λ same. absurd (false≢true (first.1 (same_at from in_from same))))

  tested_at : (k : ℕ) (x y : List ℕ) (a : Bool) → x ≡ (vector_at vs k).marks → y ≡ (vector_at ws k).marks → IsTrue a ↔ (x ≡ y) → IsTrue a ↔ AreSame k
  tested_at k x y a before after tells = (λ yes. sym before ∙ tells.0 yes ∙ after, λ same. tells.1 (before ∙ same ∙ sym after))

  -- from the marks that were read, and their tests
  pub marks_tell : (x y u v : List ℕ) (a b r : Bool) → from < length vs → to < length vs → x ≡ (vector_at vs from).marks → y ≡ (vector_at ws from).marks
      → u ≡ (vector_at vs to).marks → v ≡ (vector_at ws to).marks → IsTrue a ↔ (x ≡ y) → IsTrue b ↔ (u ≡ v) → r ≡ (not a || not b) → TellsApart r (marks_in vs) (marks_in ws)
  marks_tell x y u v a b r in_from in_to is_x is_y is_u is_v first second made =
      subst (λ c. TellsApart c (marks_in vs) (marks_in ws)) (sym made) (by_both a b in_from in_to (tested_at from x y a is_x is_y first) (tested_at to u v b is_u is_v second))
