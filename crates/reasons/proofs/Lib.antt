-- Laws of the reasons: the entry that is shown is the first that passes, the dirty lines that are missing are the fewest, the queue's
-- head; the check before them; every refusal by 5 to 9 names something.
pub mod Entries
pub mod Least
pub mod Heads
pub mod Named
