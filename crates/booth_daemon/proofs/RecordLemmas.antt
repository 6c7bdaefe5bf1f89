-- The records of the tickets, read one after the other.
use Rattle.std.specs.Prelude.{Option, Result, Ok, Err, MatchResult}
use Rattle.std.specs.List.{zip}
use Rattle.std.proofs.Common.{◌≡◌, ◌<◌, ◌+◌, ℕ, suc, List, [], ◌∷◌, ◌++◌, length, map, take, drop, get_or}
use Rattle.std.proofs.Common.{refl, sym, ap, ◌∙◌, subst, arith}
use Rattle.std.proofs.lemmas.List.{length-append, take-append-drop, take_more}
use Rattle.std.proofs.Math.Seq.{drop-cons}
use Rattle.booth_conf.specs.declared.tickets.TicketConf.{TicketConf}
use Rattle.booth_rec.specs.declared.record.Record.{Record}
use Rattle.booth_host.specs.declared.entry.Entry.{Entry}
use Rattle.booth_host.specs.declared.entry.Entry.TheVariants.{Kept}
use Rattle.booth_host.specs.Past.{GrewSome}
use Rattle.booth_host.proofs.PastLemmas.{some_joined}
use Rattle.booth_outcomes.specs.declared.outcome.Ended.{Ended}
use Rattle.booth_daemon.specs.Records.{AreKept, AreUnread, IsRecordRead, kept_call}
use Rattle.booth_outcomes.proofs.EndedLemmas.{ErrIs, err_has}

pub one_longer : {X : Type 0} (xs ys : List X) (x : X) (n : ℕ) → ys ≡ xs ++ x ∷ [] → length xs ≡ n →
    length ys ≡ n + 1
one_longer xs ys x n longer is = ap (λ zs. length zs) longer ∙ length-append xs (x ∷ []) ∙ ap (λ m. m + 1) is

calls_more : (tickets : List TicketConf) (records : List (Option Record)) (ticket : TicketConf)
    (rec : Option Record) → length records ≡ length tickets →
    map kept_call (zip (tickets ++ ticket ∷ []) (records ++ rec ∷ []))
    ≡ map kept_call (zip tickets records) ++ Kept ticket.name (Ok rec) ∷ []
calls_more [] [] ticket rec same = refl
calls_more [] (r ∷ records) ticket rec same = absurd (omega (arith, same))
calls_more (t ∷ tickets) [] ticket rec same = absurd (omega (arith, same))
calls_more (t ∷ tickets) (r ∷ records) ticket rec same =
    ap (λ es. kept_call (t, r) ∷ es) (calls_more tickets records ticket rec (omega (arith, same)))

-- one more record
kept_last : (tickets : List TicketConf) (records : List (Option Record)) (ticket : TicketConf)
    (rec : Option Record) (xs ys : List Entry) → AreKept tickets records xs →
    ys ≡ Kept ticket.name (Ok rec) ∷ [] →
    AreKept (tickets ++ ticket ∷ []) (records ++ rec ∷ []) (xs ++ ys)
kept_last tickets records ticket rec xs ys kept call = record {
  each = simp length-append (ap (λ n. n + 1) kept.each);
  calls = ap (λ es. es ++ ys) kept.calls ∙ ap (λ es. map kept_call (zip tickets records) ++ es) call
      ∙ sym (calls_more tickets records ticket rec kept.each);
}

-- what stands before a place, what stands there, and what stands behind it
pub cut_at : {X : Type 0} (xs : List X) (i : ℕ) (x : X) → i < length xs → x ≡ get_or xs i x →
    xs ≡ take i xs ++ x ∷ drop (suc i) xs
cut_at xs i x below is =
    sym (take-append-drop i xs) ∙ ap (λ ts. take i xs ++ ts) (drop-cons xs i x below)
    ∙ ap (λ t. take i xs ++ t ∷ drop (suc i) xs) (sym is)

module _ (tickets : List TicketConf) (i : ℕ) (ticket : TicketConf) (below : i < length tickets)
    (is : ticket ≡ get_or tickets i ticket) (records : List (Option Record)) where
  -- the record of the ticket at this place, behind those before it
  pub kept_more : {a b c : Option (List Entry)} (rec : Option Record) (more : List (Option Record)) →
      more ≡ records ++ rec ∷ [] → GrewSome (AreKept (take i tickets) records) a b →
      GrewSome (IsRecordRead ticket.name (Ok rec)) b c →
      GrewSome (AreKept (take (i + 1) tickets) more) a c
  kept_more rec more longer early one =
      some_joined (AreKept (take i tickets) records) (IsRecordRead ticket.name (Ok rec))
      (AreKept (take (i + 1) tickets) more)
      (λ xs ys kept call.
      let last : AreKept (take i tickets ++ ticket ∷ []) (records ++ rec ∷ []) (xs ++ ys) =
      kept_last (take i tickets) records ticket rec xs ys kept call in
      let here : take (i + 1) tickets ≡ take i tickets ++ ticket ∷ [] =
      take_more tickets i ticket below ∙ ap (λ t. take i tickets ++ t ∷ []) (sym is) in
      subst (λ rs. AreKept (take (i + 1) tickets) rs (xs ++ ys)) (sym longer)
      (subst (λ ts. AreKept ts (records ++ rec ∷ []) (xs ++ ys)) (sym here) last)) early one

  -- the record of the ticket at this place could not be read
  pub unread_at : {a b c : Option (List Entry)} {T : Type 0} (P : T → Type 0) (r : Result T Ended)
      (ended : Ended) → ErrIs r ended →
      GrewSome (AreKept (take i tickets) records) a b → GrewSome (IsRecordRead ticket.name (Err ended)) b c →
      MatchResult r P (λ e. GrewSome (AreUnread tickets e.outcome e.said) a c)
  unread_at {a} {b} {c} P r ended same early one =
      err_has (λ r. MatchResult r P (λ e. GrewSome (AreUnread tickets e.outcome e.said) a c)) r ended same
      (some_joined (AreKept (take i tickets) records) (IsRecordRead ticket.name (Err ended))
      (AreUnread tickets ended.outcome ended.said)
      (λ xs ys kept no.
      subst (λ o. AreUnread tickets o ended.said (xs ++ ys)) (sym no.0) (record {
        before = take i tickets;
        ticket = ticket;
        after = drop (suc i) tickets;
        order = cut_at tickets i ticket below is;
        records = records;
        early = xs;
        read = kept;
        failed = no.2;
        whole = ap (λ es. xs ++ es) no.3;
        told = no.1;
      })) early one)
