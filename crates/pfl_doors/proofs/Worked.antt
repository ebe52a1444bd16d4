-- Worked cases of what a request is, computed: what browsers send, and lines of sessions.
use Rattle.std.specs.Prelude.{◌≡◌, ◌++◌, replicate, Some, None, true, false, refl, codes}
use Rattle.pfl_doors.specs.Requests.{judged}

-- a method that is no word of a session needs no more than its slash
post : judged (codes "POST /") ≡ Some true
unfolding judged
post = refl

post-so_far : judged (codes "POST ") ≡ None
unfolding judged
post-so_far = refl

of_33_letters : judged (replicate 33 77 ++ codes " /") ≡ Some true
unfolding judged
of_33_letters = refl

-- a method that is a word of sessions, or begins with #, is one where the line ends as a request's does
step : judged (codes "step /x HTTP/1.1\r\nHost: ") ≡ Some true
unfolding judged
step = refl

step-of_a_line_feed : judged (codes "step / HTTP/1.1\n") ≡ Some true
unfolding judged
step-of_a_line_feed = refl

step-so_far : judged (codes "step /x HTTP/1.1") ≡ None
unfolding judged
step-so_far = refl

comment : judged (codes "#x /x HTTP/1.1\r\n") ≡ Some true
unfolding judged
comment = refl

-- lines of sessions
step_of_a_session : judged (codes "step /x\n") ≡ Some false
unfolding judged
step_of_a_session = refl

step_of_a_version : judged (codes "step /x HTTP/1.x\n") ≡ Some false
unfolding judged
step_of_a_version = refl

comment_of_a_session : judged (codes "# /comment\n") ≡ Some false
unfolding judged
comment_of_a_session = refl

comment_on_browsers : judged (codes "# / HTTP/1.1 is what a browser sends\n") ≡ Some false
unfolding judged
comment_on_browsers = refl

comment_of_two_words : judged (codes "# /x and /y HTTP/1.1\n") ≡ Some false
unfolding judged
comment_of_two_words = refl

step_of_a_packet : judged (codes "step main tick a 9\n") ≡ Some false
unfolding judged
step_of_a_packet = refl

blank : judged (codes "\n") ≡ Some false
unfolding judged
blank = refl

-- a line of a session has at most 512 bytes
target_of_512_bytes : judged (codes "step /" ++ replicate 506 120) ≡ None
unfolding judged
target_of_512_bytes = refl

target_of_513_bytes : judged (codes "step /" ++ replicate 507 120) ≡ Some true
unfolding judged
target_of_513_bytes = refl

word_of_512_bytes : judged (replicate 512 120 ++ codes "\n") ≡ Some false
unfolding judged
word_of_512_bytes = refl

word_of_513_bytes : judged (replicate 513 35 ++ codes " / HTTP/1.1") ≡ Some true
unfolding judged
word_of_513_bytes = refl

long_comment : judged (codes "# " ++ replicate 1000 120) ≡ Some false
unfolding judged
long_comment = refl
