-- The files on what a seat may rely on between its steps.
pub mod NotesBeside
pub mod NotesKept
pub mod NotesBounds
