-- Lines put one after the other.
use Rattle.std.proofs.Common.{◌≡◌, ◌<◌, ◌+◌, ℕ, List, [], ◌∷◌, ◌++◌, Option, length, map, take, get_or, refl, ap, ◌∙◌, sym, append-nil}
use Rattle.std.specs.Prelude.{codes, decimal}
use Rattle.std.specs.List.{flat_map}
use Rattle.std.proofs.lemmas.List.{map_more, take_more}
use Rattle.std.proofs.lemmas.Grind.{flat_map-append}
use Rattle.booth_conf.specs.Keys.{row_of}
use Rattle.booth_conf.specs.Print.{line_text, lines_text, entries_text, entry_name, entry_value, setting_name, setting_value, set, times_entries, weights_entries, handler_entries, prereq_entry, word_at, word_of, key_entries, ticket_settings, authfile_entries, authfile_old_entries, hash_entry, hash_place, extra_entry, early_entries, late_entries, top_entries, printed, steady_entries}
use Rattle.booth_conf.specs.Config.{ConfigSays}
use Rattle.booth_keys.specs.declared.ring.Hash.{Hash}
use Rattle.booth_conf.specs.declared.keys.KeyNo.{KeyNo}
use Rattle.booth_conf.specs.declared.keys.ConfKey.TheVariants as keys
use Rattle.booth_conf.specs.declared.keys.Choice.TheVariants.{Mode, Hash as HashChoice}
use Rattle.booth_conf.specs.declared.tickets.TicketConf.{TicketConf}
use Rattle.booth_conf.specs.declared.settings.Value.TheVariants.{Number, Word}
use Rattle.booth_conf.specs.declared.settings.Entry.{Entry}
use Rattle.booth_conf.specs.declared.settings.Setting.{Setting}
use Rattle.booth_conf.specs.declared.settings.Setting.TheVariants.{File, Member, Of}
use Rattle.booth_conf.proofs.PushLemmas.{two_pushed}

pub lines_append : (xs ys : List Setting) → lines_text (xs ++ ys) ≡ lines_text xs ++ lines_text ys
lines_append xs ys = flat_map-append (λ s. line_text (setting_name s) (setting_value s)) xs ys

pub entries_append : (xs ys : List Entry) → entries_text (xs ++ ys) ≡ entries_text xs ++ entries_text ys
entries_append xs ys = flat_map-append (λ e. line_text (entry_name e) (entry_value e)) xs ys

-- entries as settings have the lines of the entries
of_text : (es : List Entry) → lines_text (map Of es) ≡ entries_text es
of_text [] = refl
of_text (e ∷ es) = ap (λ xs. line_text (entry_name e) (entry_value e) ++ xs) (of_text es)

file_text : (es : List Entry) → lines_text (map File es) ≡ entries_text es
file_text [] = refl
file_text (e ∷ es) = ap (λ xs. line_text (entry_name e) (entry_value e) ++ xs) (file_text es)

-- one more entry
pub entries_more : {X : Type 0} (f : X → Entry) (xs : List X) (i : ℕ) (x : X) → i < length xs →
    x ≡ get_or xs i x →
    entries_text (map f (take (i + 1) xs)) ≡ entries_text (map f (take i xs)) ++ entries_text (f x ∷ [])
entries_more f xs i x lt is =
    ap entries_text (map_more f xs i x lt ∙ ap (λ y. map f (take i xs) ++ f y ∷ []) (sym is))
    ∙ entries_append (map f (take i xs)) (f x ∷ [])

-- one more line
pub lines_more : {X : Type 0} (f : X → Setting) (xs : List X) (i : ℕ) (x : X) → i < length xs →
    x ≡ get_or xs i x →
    lines_text (map f (take (i + 1) xs)) ≡ lines_text (map f (take i xs)) ++ lines_text (f x ∷ [])
lines_more f xs i x lt is =
    ap lines_text (map_more f xs i x lt ∙ ap (λ y. map f (take i xs) ++ f y ∷ []) (sym is))
    ∙ lines_append (map f (take i xs)) (f x ∷ [])

-- one entry more, one line more
pub ruleset more_entries = (entries_more, map_more, entries_append)

pub ruleset more_lines = (lines_more, map_more, lines_append)

-- one more ticket
pub tickets_more : (xs : List TicketConf) (i : ℕ) (x : TicketConf) → i < length xs →
    x ≡ get_or xs i x →
    lines_text (flat_map ticket_settings (take (i + 1) xs)) ≡ lines_text (flat_map ticket_settings (take i xs)) ++ lines_text (ticket_settings x)
tickets_more xs i x lt is =
    ap (λ ts. lines_text (flat_map ticket_settings ts)) (take_more xs i x lt ∙ ap (λ y. take i xs ++ y ∷ []) (sym is))
    ∙ ap lines_text (flat_map-append ticket_settings (take i xs) (x ∷ []) ∙ ap (λ ss. flat_map ticket_settings (take i xs) ++ ss) (append-nil (ticket_settings x)))
    ∙ lines_append (flat_map ticket_settings (take i xs)) (ticket_settings x)

pub ticket_pushed : (t u v w x y m z : List ℕ) (ticket : TicketConf) →
    u ≡ t ++ line_text (row_of keys.Ticket).name ticket.name → v ≡ u ++ entries_text (times_entries ticket.times)
    → w ≡ v ++ entries_text (weights_entries ticket.weights.items) → x ≡ w ++ entries_text (handler_entries ticket.handler)
    → y ≡ x ++ entries_text (map prereq_entry ticket.prereqs)
    → m ≡ y ++ line_text (row_of keys.Mode).name (word_at Mode (word_of ticket.manual))
    → z ≡ m ++ entries_text (steady_entries ticket.steady)
    → z ≡ t ++ lines_text (ticket_settings ticket)
ticket_pushed t u v w x y m z ticket a b c d e f g =
    let mode : List Entry = set keys.Mode (Word (word_of ticket.manual)) ∷ steady_entries ticket.steady in
    let prereqs : List Entry = map prereq_entry ticket.prereqs in
    let handler : List Entry = handler_entries ticket.handler in
    let weights : List Entry = weights_entries ticket.weights.items in
    let times : List Entry = times_entries ticket.times in
    let name : List ℕ = line_text (row_of keys.Ticket).name ticket.name in
    let mode_line : List ℕ = line_text (row_of keys.Mode).name (word_at Mode (word_of ticket.manual)) in
    let end : z ≡ y ++ entries_text mode = two_pushed y m z mode_line (entries_text (steady_entries ticket.steady)) f g in
    let last : z ≡ x ++ entries_text (prereqs ++ mode) =
    two_pushed x y z (entries_text prereqs) (entries_text mode) e end
    ∙ ap (λ xs. x ++ xs) (sym (entries_append prereqs mode)) in
    let third : z ≡ w ++ entries_text (handler ++ (prereqs ++ mode)) =
    two_pushed w x z (entries_text handler) (entries_text (prereqs ++ mode)) d last
    ∙ ap (λ xs. w ++ xs) (sym (entries_append handler (prereqs ++ mode))) in
    let second : z ≡ v ++ entries_text (weights ++ (handler ++ (prereqs ++ mode))) =
    two_pushed v w z (entries_text weights) (entries_text (handler ++ (prereqs ++ mode))) c third
    ∙ ap (λ xs. v ++ xs) (sym (entries_append weights (handler ++ (prereqs ++ mode)))) in
    let first : z ≡ u ++ entries_text (key_entries ticket) =
    two_pushed u v z (entries_text times) (entries_text (weights ++ (handler ++ (prereqs ++ mode)))) b second
    ∙ ap (λ xs. u ++ xs) (sym (entries_append times (weights ++ (handler ++ (prereqs ++ mode))))) in
    two_pushed t u z name (entries_text (key_entries ticket)) a first
    ∙ ap (λ xs. t ++ (name ++ xs)) (sym (of_text (key_entries ticket)))

pub early_pushed : (t u v w x : List ℕ) (port : ℕ) (authfile : Option (List ℕ)) (skew : ℕ) →
    u ≡ t ++ line_text (row_of keys.Port).name (decimal port) → v ≡ u ++ line_text (row_of keys.Transport).name (codes "UDP") → w ≡ v ++ entries_text (authfile_entries authfile)
    → x ≡ w ++ line_text (row_of keys.Maxtimeskew).name (decimal skew)
    → x ≡ t ++ entries_text (early_entries port authfile skew)
early_pushed t u v w x port authfile skew a b c d =
    let skew_line : List ℕ = line_text (row_of keys.Maxtimeskew).name (decimal skew) in
    let rest : List Entry = set keys.Maxtimeskew (Number skew) ∷ [] in
    let last : x ≡ w ++ entries_text rest = d ∙ ap (λ xs. w ++ xs) (sym (append-nil skew_line)) in
    let third : x ≡ v ++ entries_text (authfile_entries authfile ++ rest) =
    two_pushed v w x (entries_text (authfile_entries authfile)) (entries_text rest) c last
    ∙ ap (λ xs. v ++ xs) (sym (entries_append (authfile_entries authfile) rest)) in
    two_pushed t u x (line_text (row_of keys.Port).name (decimal port)) (line_text (row_of keys.Transport).name (codes "UDP") ++ entries_text (authfile_entries authfile ++ rest)) a
    (two_pushed u v x (line_text (row_of keys.Transport).name (codes "UDP")) (entries_text (authfile_entries authfile ++ rest)) b third)

pub late_pushed : (t u v w : List ℕ) (authfile_old : Option (List ℕ)) (auth_hash : Hash) (extras : List (KeyNo × List ℕ)) →
    u ≡ t ++ entries_text (authfile_old_entries authfile_old) →
    v ≡ u ++ line_text (row_of keys.Authhash).name (word_at HashChoice (hash_place auth_hash)) →
    w ≡ v ++ entries_text (map extra_entry extras) → w ≡ t ++ entries_text (late_entries authfile_old auth_hash extras)
late_pushed t u v w authfile_old auth_hash extras a b c =
    let rest : List Entry = hash_entry auth_hash ∷ map extra_entry extras in
    two_pushed t u w (entries_text (authfile_old_entries authfile_old)) (entries_text rest) a
    (two_pushed u v w (line_text (row_of keys.Authhash).name (word_at HashChoice (hash_place auth_hash))) (entries_text (map extra_entry extras)) b c)
    ∙ ap (λ xs. t ++ xs) (sym (entries_append (authfile_old_entries authfile_old) rest))

pub config_pushed : (s t u v : List ℕ) (c : ConfigSays) →
    s ≡ entries_text (early_entries c.port c.authfile c.skew) →
    t ≡ s ++ entries_text (late_entries c.authfile_old c.auth_hash c.extras) →
    u ≡ t ++ lines_text (map Member c.members) →
    v ≡ u ++ lines_text (flat_map ticket_settings c.tickets) → v ≡ printed c
config_pushed s t u v c first late e f =
    let top : List Entry = top_entries c in
    let d : t ≡ entries_text top =
    late ∙ ap (λ xs. xs ++ entries_text (late_entries c.authfile_old c.auth_hash c.extras)) first
    ∙ sym (entries_append (early_entries c.port c.authfile c.skew) (late_entries c.authfile_old c.auth_hash c.extras)) in
    two_pushed t u v (lines_text (map Member c.members)) (lines_text (flat_map ticket_settings c.tickets)) e f
    ∙ ap (λ xs. t ++ xs) (sym (lines_append (map Member c.members) (flat_map ticket_settings c.tickets)))
    ∙ ap (λ xs. xs ++ lines_text (map Member c.members ++ flat_map ticket_settings c.tickets)) (d ∙ sym (file_text top))
    ∙ sym (lines_append (map File top) (map Member c.members ++ flat_map ticket_settings c.tickets))
