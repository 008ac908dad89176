-- AppendObjectSpecState: what a reconnect dials with, in its two forms, and how responses and redirects update it (state.rs).
-- The opening dial's own fields (access list, generation conditions, object size, initial chunk) are left out with that dial.
use Rattle.rules.specs.Basics.{Option, none, some, Option·getD, pos}
use Rattle.rules.specs.Message.{Bytes, Generation, Metageneration, Response, Redirect, generation_of}

pub record WriteObjectSpec : Type 0 where
  pub bucket : Bytes
  pub object : Bytes
  pub if_metageneration_match : Option Metageneration
  pub if_metageneration_not_match : Option Metageneration

pub record AppendObjectSpec : Type 0 where
  pub bucket : Bytes
  pub object : Bytes
  pub generation : Generation
  pub write_handle : Option Bytes
  pub routing_token : Option Bytes
  pub if_metageneration_match : Option Metageneration
  pub if_metageneration_not_match : Option Metageneration

-- the Write form, with its routing token, creates an object; the Append form takes one over
pub data AppendObjectSpecState : Type 0 where
  write_form : WriteObjectSpec → Option Bytes → AppendObjectSpecState
  append_form : AppendObjectSpec → AppendObjectSpecState

abbrev pub bucket_of : AppendObjectSpecState → Bytes
bucket_of = elim [ write_form w t ↦ w.bucket | append_form a ↦ a.bucket ]

abbrev pub object_of : AppendObjectSpecState → Bytes
object_of = elim [ write_form w t ↦ w.object | append_form a ↦ a.object ]

abbrev pub token_of : AppendObjectSpecState → Option Bytes
token_of = elim [ write_form w t ↦ t | append_form a ↦ a.routing_token ]

abbrev pub handle_of : AppendObjectSpecState → Option Bytes
handle_of = elim [ write_form w t ↦ none | append_form a ↦ a.write_handle ]

abbrev pub refreshed : Option Bytes → Option Bytes → Option Bytes  -- the new one where it is given
refreshed new old = elim new [ none ↦ old | some b ↦ some b ]

abbrev pub appended : WriteObjectSpec → Generation → Option Bytes → Option Bytes → AppendObjectSpec  -- the Append form that a Write form turns into
appended w g handle token = record {
  bucket = w.bucket;
  object = w.object;
  generation = g;
  write_handle = handle;
  routing_token = token;
  if_metageneration_match = w.if_metageneration_match;
  if_metageneration_not_match = w.if_metageneration_not_match;
}

abbrev pub renewed : Generation → Option Bytes → Option Bytes → AppendObjectSpec → AppendObjectSpec  -- generation, handle and token set anew
renewed g handle token a =
    let w : WriteObjectSpec = record { bucket = a.bucket; object = a.object; if_metageneration_match = a.if_metageneration_match; if_metageneration_not_match = a.if_metageneration_not_match } in
    appended w g handle token

abbrev pub noted : Response → AppendObjectSpec → AppendObjectSpec  -- handle_response: a resource's generation and a given handle are taken over
noted m a = renewed (Option·getD (generation_of m.write_status) a.generation) (refreshed m.write_handle a.write_handle) a.routing_token a

unfoldable pub handle_response : Response → AppendObjectSpecState → AppendObjectSpec  -- after a response the form is Append
handle_response m (write_form w token) = appended w (Option·getD (generation_of m.write_status) (record { number = pos 0 })) m.write_handle token
handle_response m (append_form a) = noted m a

-- "a status with redirect detail replaces the token, even by none, and handle and generation where it has them"
abbrev pub redirected : Redirect → AppendObjectSpec → AppendObjectSpec
redirected r a = renewed (Option·getD r.generation a.generation) (refreshed r.write_handle a.write_handle) r.routing_token a

-- handle_redirect: a Write form stays one while it has no generation to append to
abbrev pub redirected_write : Option Generation → Redirect → WriteObjectSpec → AppendObjectSpecState
redirected_write none r w = write_form w r.routing_token
redirected_write (some g) r w = append_form (appended w g r.write_handle r.routing_token)

unfoldable pub handle_redirect : Redirect → AppendObjectSpecState → AppendObjectSpecState
handle_redirect r (write_form w token) = redirected_write r.generation r w
handle_redirect r (append_form a) = append_form (redirected r a)
