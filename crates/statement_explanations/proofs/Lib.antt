mod KeyCells
mod Telling
