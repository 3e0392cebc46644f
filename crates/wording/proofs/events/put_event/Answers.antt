-- By cases.
use Rattle.wording.specs.Events.{event_words}
use Rattle.wording.proofs.events.put_event.Goals as goal

pub returns-in-WriteBackQueued : goal.returns-in-WriteBackQueued
unfolding event_words
returns-in-WriteBackQueued c = rw c.in-WriteBackQueued.is c.put_back.ensures

pub returns-in-Released : goal.returns-in-Released
unfolding event_words
returns-in-Released c = rw c.in-Released.is c.put_all-in-Released.ensures

pub returns-in-WriteBackSent : goal.returns-in-WriteBackSent
unfolding event_words
returns-in-WriteBackSent c = rw c.in-WriteBackSent.is c.put_back-in-WriteBackSent.ensures
