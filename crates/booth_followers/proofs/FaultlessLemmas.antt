-- Where the outside does not fail, a service follows its ticket up to its end.
use Rattle.std.specs.Prelude.{Contains, Option, Some, None, Result, Ok, Err}
use Rattle.std.proofs.Common.{◌≡◌, ◌∙◌, ℕ, List, [], ◌∷◌, ◌++◌, sym, ap, subst, inl, inr, arith, append_assoc}
use Rattle.std.proofs.lemmas.List.Elements.{Contains-append_left, Contains-append_right}
use Rattle.booth_keys.specs.declared.ring.Ring.{Ring}
use Rattle.booth_conf.specs.Config.{ConfigSays}
use Rattle.booth_conf.specs.Says.{Says}
use Rattle.booth_conf.specs.declared.tickets.TicketConf.{TicketConf}
use Rattle.booth_conf.proofs.OneAnswers.{one_answer}
use Rattle.booth_follow_rule.specs.declared.margins.MarginFault.{MarginFault}
use Rattle.booth_follow_rule.specs.declared.margins.MarginFault.TheVariants as margin_faults
use Rattle.booth_follow_rule.specs.declared.margins.Margins.{Margins}
use Rattle.booth_follow_rule.specs.Margins.{Fits, HasFault as HasMarginFault}
use Rattle.booth_following.specs.declared.choosing.FollowFault.{FollowFault}
use Rattle.booth_following.specs.declared.choosing.FollowFault.TheVariants as faults
use Rattle.booth_following.specs.declared.turns.FollowEnd.{FollowEnd}
use Rattle.booth_following.specs.declared.turns.FollowEnd.TheVariants.{Left, Spent, Unheard}
use Rattle.booth_following.specs.declared.following.Following.{Following}
use Rattle.booth_following.specs.Choosing.{HasFault, IsChosen, IsUnfit, margins_in}
use Rattle.booth_host.specs.declared.host.ReadFault.{ReadFault}
use Rattle.booth_host.specs.declared.host.ReadFault.TheVariants as reads
use Rattle.booth_host.specs.declared.entry.Entry.{Entry}
use Rattle.booth_host.specs.declared.entry.Entry.TheVariants.{Open, ReadFile}
use Rattle.booth_cli.specs.declared.asking.FollowWords.{FollowWords}
use Rattle.booth_cli.specs.declared.command.Verb.TheVariants as verbs
use Rattle.booth_cli.specs.declared.program.Program.TheVariants.{BoothFollow}
use Rattle.booth_outcomes.specs.declared.outcome.Outcome.{Outcome}
use Rattle.booth_outcomes.specs.declared.outcome.Outcome.TheVariants as outs
use Rattle.booth_outcomes.specs.Configuration.{IsUnread}
use Rattle.booth_outcomes.specs.Keys.{FirstKeyless, IsFileKeyless, IsKeyless, KeyTexts, NamesKeyFile, OldKeyless, key_call, key_calls, old_file}
use Rattle.booth_outcomes.proofs.CallLemmas.{first_of}
use Rattle.booth_outcomes.proofs.UsageLemmas.{for_memory}
use Rattle.booth_followers.specs.Faultless.{AreReads, FaultlessServices, IsFollowedThrough, IsReadFirst, IsUnhindered}
use Rattle.booth_followers.specs.Rounds.{EndsAs, Exhausted, Finished, IsService}
use Rattle.booth_followers.specs.Run.{Followed, IsFollowMade, Unasked}
use Rattle.booth_followers.specs.Service.{Fitted, FollowsConfig, FollowsKey, FollowsMargins, IsFollowLog, IsRoomless, IsStarted, IsSocketless, IsUnfollowed, Keyed, Keyless, Read, Roomless, Serving, SetOut, Socketless, Unfollowed, Unread}

-- ---- calls behind reads

reads_append : (xs ys : List Entry) → AreReads xs → AreReads ys → AreReads (xs ++ ys)
unfolding AreReads
reads_append [] ys first second = second
reads_append (ReadFile file answer ∷ xs) ys first second = reads_append xs ys first second
reads_append (x ∷ xs) ys first second = absurd first

key_read_alone : (file : Option (List ℕ)) (text : List ℕ) → AreReads (key_call file text)
unfolding AreReads
key_read_alone None text = tt
key_read_alone (Some file) text = tt

keys_read : (config : ConfigSays) (texts : KeyTexts) → AreReads (key_calls config texts)
keys_read config texts =
    reads_append (key_call config.authfile texts.first) (key_call (old_file config.authfile config.authfile_old) texts.old)
    (key_read_alone config.authfile texts.first) (key_read_alone (old_file config.authfile config.authfile_old) texts.old)

-- These calls are a part of all, and before them only files were read.
record IsNext (part entries : List Entry) : Type 0 where
  before : List Entry
  after : List Entry
  whole : entries ≡ before ++ (part ++ after)
  reads : AreReads before

-- its first call reads a file
read_first : (file : List ℕ) (answer : Result (List ℕ) ReadFault) (rest part entries : List Entry) → part ≡ ReadFile file answer ∷ rest
    → IsNext part entries → IsReadFirst entries file answer
read_first file answer rest part entries same n = record {
  before = n.before;
  after = rest ++ n.after;
  whole = n.whole ∙ ap (λ (xs : List Entry). n.before ++ (xs ++ n.after)) same;
  reads = n.reads;
}

-- what is behind its reads is next
behind_reads : (xs rest part entries : List Entry) → AreReads xs → part ≡ xs ++ rest → IsNext part entries → IsNext rest entries
behind_reads xs rest part entries reads same n = record {
  before = n.before ++ xs;
  after = n.after;
  whole =
      n.whole ∙ ap (λ (ys : List Entry). n.before ++ (ys ++ n.after)) same
      ∙ ap (λ (ys : List Entry). n.before ++ ys) (append_assoc xs rest n.after)
      ∙ sym (append_assoc n.before xs (rest ++ n.after));
  reads = reads_append n.before xs n.reads reads;
}

one_read : (file : List ℕ) (answer : Result (List ℕ) ReadFault) → AreReads (ReadFile file answer ∷ [])
unfolding AreReads
one_read file answer = tt

no_read : AreReads []
unfolding AreReads
no_read = tt

behind_read : (file : List ℕ) (answer : Result (List ℕ) ReadFault) (rest part entries : List Entry) → part ≡ ReadFile file answer ∷ rest
    → IsNext part entries → IsNext rest entries
behind_read file answer rest part entries same n = behind_reads (ReadFile file answer ∷ []) rest part entries (one_read file answer) same n

-- its one call is one of all
contained : (x : Entry) (part entries : List Entry) → part ≡ x ∷ [] → IsNext part entries → Contains entries x
contained x part entries same n =
    let P : List Entry → Type 0 = λ es. Contains es x in
    subst P (sym n.whole)
    (Contains-append_right n.before (part ++ n.after) x
    (Contains-append_left part n.after x (subst P (sym same) (first_of x []))))

-- ---- margins

fits_no_fault : (expire renewal : ℕ) (m : Margins) (fault : MarginFault) → Fits expire renewal m → HasMarginFault expire renewal m fault → ⊥
fits_no_fault expire renewal m margin_faults.MarginTooLong fits has = let a = fits.renewed in omega (arith, a, has)
fits_no_fault expire renewal m margin_faults.KillTooLong fits has = let a = fits.stop in let b = has.1 in omega (arith, a, b)
fits_no_fault expire renewal m margin_faults.KillTooShort fits has = let a = fits.kill in let b = has.2 in omega (arith, a, b)

unfit_not_chosen : (config : ConfigSays) (ticket : List ℕ) (asked : FollowWords) (m : Margins) (fault : MarginFault)
    → IsChosen config ticket asked.site asked.margin asked.kill m → IsUnfit config ticket asked.site asked.margin asked.kill fault → ⊥
unfit_not_chosen config ticket asked m fault c u =
    let same : c.conf ≡ u.conf = let a = c.there in let b = u.there in cc in
    let fits = c.fits in
    let has = u.has in
    fits_no_fault c.conf.times.expire c.conf.times.renewal m fault fits
    (subst (λ (n : Margins). HasMarginFault c.conf.times.expire c.conf.times.renewal n fault) (sym c.is)
    (subst (λ (conf : TicketConf). HasMarginFault conf.times.expire conf.times.renewal (margins_in conf asked.margin asked.kill) fault) (sym same) has))

not_chosen : (config : ConfigSays) (asked : FollowWords) (m : Margins) (fault : FollowFault)
    → IsChosen config asked.ticket asked.site asked.margin asked.kill m
    → HasFault config asked.ticket asked.site asked.margin asked.kill fault → ⊥
not_chosen config asked m faults.NoTicket c has = let there = c.there in let none : _ ≡ None = has in absurd cc
not_chosen config asked m faults.NotSite c has = let at = c.at in let none = has.1 in absurd cc
not_chosen config asked m faults.IsManual c has =
    let a = c.there in
    let b = has.there in
    let automatic = c.automatic in
    let by_hand = has.by_hand in
    absurd cc
not_chosen config asked m faults.MarginTooLong c has = unfit_not_chosen config asked.ticket asked m margin_faults.MarginTooLong c has
not_chosen config asked m faults.KillTooLong c has = unfit_not_chosen config asked.ticket asked m margin_faults.KillTooLong c has
not_chosen config asked m faults.KillTooShort c has = unfit_not_chosen config asked.ticket asked m margin_faults.KillTooShort c has

-- ---- the stages

module _ (left : Option ℕ) (asked : FollowWords) (entries : List Entry) (free : IsUnhindered asked entries) where
  unread : (outcome : Outcome) (said : List ℕ) (part : List Entry) → IsNext part entries → IsUnread asked.conf outcome said part
      → IsFollowedThrough outcome
  unread outs.OutOfMemory said part all u = tt
  unread outs.ConfUnread said part all u = absurd (free.read asked.conf (read_first asked.conf (Err reads.Failed) [] part entries u.1 all))
  unread (outs.ConfBad fault) said part all u =
      let valid = free.valid u.0 (read_first asked.conf (Ok u.0) [] part entries u.3 all) in
      absurd ((one_answer u.0).not_both valid.0 fault valid.1 u.1)
  unread outcome said part all u = absurd u

  file_keyless : (text : List ℕ) (config : ConfigSays) (file : List ℕ) (outcome : Outcome) (said : List ℕ) (part : List Entry)
      → Says text config → IsReadFirst entries asked.conf (Ok text) → NamesKeyFile config file → IsNext part entries
      → IsFileKeyless file outcome said part → IsFollowedThrough outcome
  file_keyless text config file outs.OutOfMemory said part says read named all k = tt
  file_keyless text config file outs.KeyUnread said part says read named all k =
      absurd (free.read file (read_first file (Err reads.Failed) [] part entries k.1 all))
  file_keyless text config file (outs.KeyBad fault) said part says read named all k =
      let key = free.keyed text file k.0 config read says named (read_first file (Ok k.0) [] part entries k.3 all) in
      let is = k.1 in
      let reads = key.reads in
      absurd cc
  file_keyless text config file outcome said part says read named all k = absurd k

  keyless : (text : List ℕ) (config : ConfigSays) (outcome : Outcome) (said : List ℕ) (part : List Entry) → Says text config
      → IsReadFirst entries asked.conf (Ok text) → IsNext part entries → IsKeyless config outcome said part
      → IsFollowedThrough outcome
  keyless text config outcome said part says read all (FirstKeyless k) =
      file_keyless text config k.file outcome said part says read (inl k.set) all k.here
  keyless text config outcome said part says read all (OldKeyless k) =
      file_keyless text config k.old outcome said k.rest says read (inr k.old_set)
      (behind_read k.file (Ok k.text) k.rest part entries k.whole all) k.here

  ended : (end : FollowEnd) (outcome : Outcome) (said : List ℕ) → EndsAs end outcome said → IsFollowedThrough outcome
  ended Left outs.Done said is = tt
  ended Spent outs.TurnsSpent said is = tt
  ended Left outcome said is = absurd is
  ended Spent outcome said is = absurd is
  ended Unheard outcome said is = absurd is

  finished : (f : Following) (outcome : Outcome) (said : List ℕ) (part : List Entry) → IsService left asked.conf f outcome said part
      → IsFollowedThrough outcome
  finished f outcome said part (Finished s) = ended s.here.end outcome said s.here.ends
  finished f outcome said part (Exhausted s) = ended Spent outcome said s.ends

  socketless : (outcome : Outcome) (said : List ℕ) (part : List Entry) → IsNext part entries → IsSocketless asked.conf outcome said part
      → IsFollowedThrough outcome
  socketless outs.OpenFault said part all s = absurd (free.opened None 0 [] asked.conf s.1 (contained (Open None 0 [] asked.conf (Err s.1)) part entries s.2 all))
  socketless outcome said part all s = absurd s

  roomless : (outcome : Outcome) (said : List ℕ) (part : List Entry) → IsRoomless outcome said part → IsFollowedThrough outcome
  roomless outs.OutOfMemory said part r = tt
  roomless outcome said part r = absurd r

  keyed : (config : ConfigSays) (ring : Option Ring) (margins : Margins) (outcome : Outcome) (said : List ℕ) (part : List Entry)
      → IsNext part entries → FollowsKey left asked config ring margins outcome said part → IsFollowedThrough outcome
  keyed config ring margins outcome said part all (Roomless r) = roomless outcome said part r
  keyed config ring margins outcome said part all (SetOut s) = go s.starts
    where
      go : IsStarted left asked.conf s.f outcome said part → IsFollowedThrough outcome
      go (Socketless k) = socketless outcome said part all k
      go (Serving v) = finished s.f outcome said v.rest v.serves

  fitted : (text : List ℕ) (config : ConfigSays) (margins : Margins) (outcome : Outcome) (said : List ℕ) (part : List Entry) → Says text config
      → IsReadFirst entries asked.conf (Ok text) → IsNext part entries → FollowsMargins left asked config margins outcome said part
      → IsFollowedThrough outcome
  fitted text config margins outcome said part says read all (Keyless k) = keyless text config outcome said part says read all k
  fitted text config margins outcome said part says read all (Keyed k) =
      keyed config k.ring margins outcome said k.rest (behind_reads (key_calls config k.texts) k.rest part entries (keys_read config k.texts) k.whole all) k.here

  unfollowed : (text : List ℕ) (config : ConfigSays) (outcome : Outcome) (said : List ℕ) (part : List Entry) → Says text config
      → IsReadFirst entries asked.conf (Ok text) → IsUnfollowed asked config outcome said part → IsFollowedThrough outcome
  unfollowed text config (outs.NotFollowed fault) said part says read u =
      let fits = free.fits text config read says in absurd (not_chosen config asked fits.0 fault fits.1 u.0)
  unfollowed text config outcome said part says read u = absurd u

  configured : (text : List ℕ) (config : ConfigSays) (outcome : Outcome) (said : List ℕ) (part : List Entry) → Says text config
      → IsReadFirst entries asked.conf (Ok text) → IsNext part entries → FollowsConfig left asked config outcome said part
      → IsFollowedThrough outcome
  configured text config outcome said part says read all (Unfollowed u) = unfollowed text config outcome said part says read u
  configured text config outcome said part says read all (Fitted f) = fitted text config f.margins outcome said part says read all f.here

  logged : (outcome : Outcome) (said : List ℕ) (part : List Entry) → IsNext part entries → IsFollowLog left asked outcome said part
      → IsFollowedThrough outcome
  logged outcome said part all (Unread u) = unread outcome said part all u
  logged outcome said part all (Read r) =
      configured r.text r.config outcome said r.rest r.says
      (read_first asked.conf (Ok r.text) r.rest part entries r.whole all)
      (behind_read asked.conf (Ok r.text) r.rest part entries r.whole all) r.here

pub faultless_services : FaultlessServices
faultless_services left words outcome entries valid run free = go run.made
  where
    all : IsNext run.body entries
    all = record { before = []; after = run.last; whole = run.whole; reads = no_read }

    go : IsFollowMade left words outcome run.said run.body → IsFollowedThrough outcome
    go (Unasked is) =
        subst IsFollowedThrough (sym (for_memory BoothFollow words verbs.Follow outcome run.said run.body valid is)) tt
    go (Followed asked asks is) = logged left asked entries (free asked asks) outcome run.said run.body all is
