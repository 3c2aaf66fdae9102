pub mod ReaderRuns
