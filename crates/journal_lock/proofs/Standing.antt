-- What events without a duty leave as it was in the world.
use Rattle.std.proofs.Common.{◌≡◌, ◌≢◌, ℕ, ◌<◌, true, List, [], ◌∷◌, ◌++◌, length, refl, ap, sym, ◌∙◌, arith, length-set, get_or-set_other}
use Rattle.std.proofs.lemmas.List.Sums.{sum_by-cons}
use Rattle.abstract_log.specs.declared.command.Workload.{Workload}
use Rattle.abstract_log.specs.declared.event.Event.{Event}
use Rattle.abstract_log.specs.declared.event.Event.TheVariants.{Submit, Append, Receive, Add, Learn, Reply, Collect}
use Rattle.abstract_log.specs.declared.world.World.{World}
use Rattle.abstract_log.specs.Worlds.{log_of, table_of, gone_of, standing_of, nowhere, start}
use Rattle.abstract_log.specs.Steps.{after}
use Rattle.abstract_log.specs.Runs.{after_all, world_of}
use Rattle.log_laws.proofs.Runs.{after_all-append}
use Rattle.journal_lock.specs.declared.duty.Duty.{Duty}
use Rattle.journal_lock.specs.declared.duty.Duty.TheVariants.{Token, Table, Session, Draft}
use Rattle.journal_lock.specs.Duties.{number, has, often, duties_of}
use Rattle.journal_lock.specs.Law.{Within}
use Rattle.journal_lock.proofs.Lists.{has_self, has_cons, often_append}

-- where no single event without the duty x changes f, no list of them does
pub stays : {A : Type 0} (f : World → A) (x : ℕ) → ((w : World) (e : Event) → has number x (duties_of e) ≡ 0 → f (after w e) ≡ f w) → (w : World) (es : List Event) → often x es ≡ 0 → f (after_all w es) ≡ f w
stays f x one w [] none = refl
stays f x one w (e ∷ es) none = let c = sum_by-cons (λ (z : Event). has number x (duties_of z)) e es in
    stays f x one (after w e) es (omega arith) ∙ one w e (omega arith)

-- so who has the duty knows f
pub known_of : {A : Type 0} (f : World → A) (x : ℕ) → ((w : World) (e : Event) → has number x (duties_of e) ≡ 0 → f (after w e) ≡ f w) → (load : Workload) (ds : List Duty) (a b : List Event) → 0 < has number x ds → Within ds a b → f (world_of load b) ≡ f (world_of load a)
known_of f x one load ds a b duty w = let rest : List Event = w.0.0 in let all : a ++ rest ≡ b = w.0.1 in
    ap (λ l. f (world_of load l)) (sym all) ∙ (ap f (after_all-append (start load) a rest)
    ∙ stays f x one (world_of load a) rest (omega (arith, w.1 x duty, ap (often x) all, often_append x a rest)))

-- a duty that no event needs is not one that it needs
session_else : (s t : ℕ) (ds : List Duty) → has number (number (Session s)) (Session t ∷ ds) ≡ 0 → s ≢ t
session_else s t ds none e = let h = has_self number (Session t) ds in let same = ap (λ k. has number (number (Session k)) (Session t ∷ ds)) e in absurd (omega arith)

token_else : (d e : ℕ) (ds : List Duty) → has number (number (Token d)) (Token e ∷ ds) ≡ 0 → d ≢ e
token_else d e ds none is = let h = has_self number (Token e) ds in let same = ap (λ k. has number (number (Token k)) (Token e ∷ ds)) is in absurd (omega arith)

table_else : (d e : ℕ) (ds : List Duty) → has number (number (Table d)) (Table e ∷ ds) ≡ 0 → d ≢ e
table_else d e ds none is = let h = has_self number (Table e) ds in let same = ap (λ k. has number (number (Table k)) (Table e ∷ ds)) is in absurd (omega arith)

pub standing_stays : (s : ℕ) (w : World) (e : Event) → has number (number (Session s)) (duties_of e) ≡ 0 → standing_of (after w e) s ≡ standing_of w s
standing_stays s w (Submit t k) none = get_or-set_other w.sessions t s (record (standing_of w t) { begun = true }) nowhere (session_else s t (Draft t ∷ []) none)
standing_stays s w (Append d t k lid toid) none = get_or-set_other w.sessions t s _ nowhere (session_else s t (Draft t ∷ Token d ∷ []) none)
standing_stays s w (Receive d e table names) none = refl
standing_stays s w (Add d lid h t) none = refl
standing_stays s w (Learn d row) none = refl
standing_stays s w (Reply d t k at answer) none = get_or-set_other w.sessions t s _ nowhere (session_else s t [] none)
standing_stays s w (Collect d p) none = refl

pub log_stays : (d : ℕ) (w : World) (e : Event) → has number (number (Token d)) (duties_of e) ≡ 0 → log_of (after w e) d ≡ log_of w d
log_stays d w (Submit s k) none = refl
log_stays d w (Append e s k lid toid) none = get_or-set_other w.logs e d _ [] (token_else d e []
    (let p = has_cons number (number (Token d)) (Session s) (Draft s ∷ Token e ∷ []) in let q = has_cons number (number (Token d)) (Draft s) (Token e ∷ []) in omega arith))
log_stays d w (Receive e f table names) none = refl
log_stays d w (Add e lid h t) none = get_or-set_other w.logs e d _ [] (token_else d e [] none)
log_stays d w (Learn e row) none = refl
log_stays d w (Reply e s k at answer) none = refl
log_stays d w (Collect e p) none = refl

pub table_stays : (d : ℕ) (w : World) (e : Event) → has number (number (Table d)) (duties_of e) ≡ 0 → table_of (after w e) d ≡ table_of w d
table_stays d w (Submit s k) none = refl
table_stays d w (Append e s k lid toid) none = refl
table_stays d w (Receive e f table names) none = get_or-set_other w.tables e d _ [] (table_else d e [] none)
table_stays d w (Add e lid h t) none = refl
table_stays d w (Learn e row) none = get_or-set_other w.tables e d _ [] (table_else d e [] none)
table_stays d w (Reply e s k at answer) none = refl
table_stays d w (Collect e p) none = refl

pub gone_stays : (d : ℕ) (w : World) (e : Event) → has number (number (Table d)) (duties_of e) ≡ 0 → gone_of (after w e) d ≡ gone_of w d
gone_stays d w (Submit s k) none = refl
gone_stays d w (Append e s k lid toid) none = refl
gone_stays d w (Receive e f table names) none = refl
gone_stays d w (Add e lid h t) none = refl
gone_stays d w (Learn e row) none = refl
gone_stays d w (Reply e s k at answer) none = refl
gone_stays d w (Collect e p) none = get_or-set_other w.gone e d _ [] (table_else d e [] none)

-- events leave the workload and the number of sessions
pub same_plan : (w : World) (es : List Event) → ((after_all w es).workload ≡ w.workload) × (length (after_all w es).sessions ≡ length w.sessions)
same_plan w [] = (refl, refl)
same_plan w (e ∷ es) = let r = same_plan (after w e) es in (r.0 ∙ one_load w e, r.1 ∙ one_count w e)
  where
    one_load : (v : World) (f : Event) → (after v f).workload ≡ v.workload
    one_load v (Submit t k) = refl
    one_load v (Append d t k lid toid) = refl
    one_load v (Receive d g table names) = refl
    one_load v (Add d lid h t) = refl
    one_load v (Learn d row) = refl
    one_load v (Reply d t k at answer) = refl
    one_load v (Collect d p) = refl

    one_count : (v : World) (f : Event) → length (after v f).sessions ≡ length v.sessions
    one_count v (Submit t k) = length-set v.sessions t _
    one_count v (Append d t k lid toid) = length-set v.sessions t _
    one_count v (Receive d g table names) = refl
    one_count v (Add d lid h t) = refl
    one_count v (Learn d row) = refl
    one_count v (Reply d t k at answer) = length-set v.sessions t _
    one_count v (Collect d p) = refl
