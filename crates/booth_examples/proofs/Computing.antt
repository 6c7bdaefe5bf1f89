-- What a proof unfolds to compute the tests of a world.
use Rattle.std.specs.Prelude.{⊤}
use Rattle.sha1.specs.Sha1.{first_words, schedule, rounds, compress, hash_after, digest_bytes, sha1}
use Rattle.booth_base.specs.Crc.{crc32, add, divisor_from, left_over, bits, number, message, dividend}
use Rattle.booth_keys.specs.Mac.{block}
use Rattle.booth_ticket.specs.Automatic.{come_due, end_job, hear, hear_job, hear_message, tick}
use Rattle.booth_ticket.specs.Keeping.{carry_out, keep_once}
use Rattle.booth_ticket.specs.Manual.{manual_heard}
use Rattle.booth_ticket.specs.ManualHandling.{end_handler, fail_handler, grant_now, manual_due, tell_waiters}
use Rattle.booth_ticket.specs.ManualRequests.{keep_for, keep_tried, manual_asked, manual_reply, start_for}
use Rattle.booth_ticket.specs.Requests.{acquire_for, follow_request, release_for, reply}
use Rattle.booth_ticket.specs.Saying.{say_each, say_to}
use Rattle.booth_ticket.specs.Waiting.{tell, tell_each, tell_one}
use Rattle.booth_wire.specs.Layout.{word, padded_to}
use Rattle.booth_wire.specs.Spelling.{header}

-- ids of members, and frames
unfoldable pub bytes_compute : ⊤
unfolding crc32 add divisor_from left_over bits number message dividend header word padded_to
bytes_compute = tt

-- the MACs of a ring that seals with SHA-1
unfoldable pub macs_compute : ⊤
unfolding first_words schedule rounds compress hash_after digest_bytes sha1 block
macs_compute = tt

-- what automatic tickets do
unfoldable pub tickets_compute : ⊤
unfolding carry_out keep_once tell tell_each tell_one say_each say_to acquire_for follow_request release_for reply come_due end_job hear hear_job hear_message tick
tickets_compute = tt

-- what manual tickets do
unfoldable pub manual_tickets_compute : ⊤
unfolding manual_heard end_handler fail_handler grant_now manual_due tell_waiters keep_for keep_tried manual_asked manual_reply start_for
manual_tickets_compute = tt

unfoldable pub worlds_compute : ⊤
unfolding bytes_compute macs_compute tickets_compute manual_tickets_compute
worlds_compute = tt
